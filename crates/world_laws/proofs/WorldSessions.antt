-- One connection of a world: what it wrote is the output of a session.
use Rattle.std.proofs.Common.{◌≡◌, inl, inr, ℕ, ◌+◌, ◌≤◌, Bool, true, false, List, [], ◌∷◌, ◌++◌, length, map, Option, Some, None, IfSome, refl, sym, ap, subst, append_assoc, length-append, ◌∙◌, arith}
use Rattle.std.specs.List.{AllByRecursion, flat_map, range_with_len}
use Rattle.std.proofs.lemmas.Grind.{flat_map-append}
use Rattle.std.proofs.lemmas.List.{append-nil}
use mathlib.Core.List.{IsPrefix}
use Rattle.pod_base.proofs.Prefixes.{prefix_self, prefix_of_append, prefix_trans}
use Rattle.pod_base.specs.declared.heard.Heard.{Heard}
use Rattle.pod_base.specs.declared.heard.Heard.TheVariants as heard
use Rattle.pod_base.specs.declared.request.Request.{Request}
use Rattle.http_conn.specs.Messages.{Messages, AreFirstEvents, NothingAfterEnd}
use Rattle.pod_core.specs.History.{History, longer}
use Rattle.pod_core.specs.Output.{item_text, output, output_of, refusal_text}
use Rattle.pod_command.specs.declared.entry.Entry.{Entry}
use Rattle.pod_core.specs.Session.{Item, Session, IsItem, IsSession, IsClockMoment, IsRefused, NeverFalls, UpgradesLast, ends_upgraded, has_bad, places_of, requests_of, upgrades}
use Rattle.token_table.specs.Credentials.{AskedAgent}
use Rattle.pod_core.specs.World.{Connection, IsNextEvent, IsSettled, first_interims, interims_text, request_number, with_answer, with_input, with_refusal}
use Rattle.pod_core.proofs.LongerSessions.{items_grow}
use Rattle.world_laws.proofs.WorldLists.{NoBad, IsPlain, map_snoc, all_snoc, length-map, range_snoc, falls_append, cancel_left, no_bad_append, requests_append, bad_after, nothing_more, later_events, interims_first, none_after, interims_no_bad, interims_no_request, plain_all, plain_last, plain_open, last_upgraded, output_grows, output_stops, interims_written, first_written, item_written}

-- ---- the laws of messages

pub record MessageLaws : Type 0 where
  pub once : (text : List ℕ) (one other : List Heard) (rest left : ℕ) → Messages text one rest → Messages text other left → one ≡ other
  pub stay : (text : List ℕ) (events all : List Heard) (rest : ℕ) → AreFirstEvents text events → Messages text all rest → IsPrefix events all
  pub ends : (text : List ℕ) (events : List Heard) (rest : ℕ) → Messages text events rest → NothingAfterEnd 0 events

-- ---- first events

first_of_parse : (text : List ℕ) (events more : List Heard) (rest : ℕ) → Messages text (events ++ more) rest → AreFirstEvents text events
first_of_parse text events more rest m = record { prefix = text; is_prefix = prefix_self text; all = events ++ more; rest = rest; messages = m; first = prefix_of_append events more }

first_longer : (text piece : List ℕ) (events : List Heard) → AreFirstEvents text events → AreFirstEvents (text ++ piece) events
first_longer text piece events f = record { prefix = f.prefix; is_prefix = prefix_trans f.prefix text (text ++ piece) f.is_prefix (prefix_of_append text piece); all = f.all; rest = f.rest; messages = f.messages; first = f.first }

-- the next event, and those after it
pub next_first : (c : Connection) (event : Heard) → IsNextEvent c event → AreFirstEvents c.input (c.done ++ event ∷ [])
next_first c event n = first_of_parse c.input (c.done ++ event ∷ []) n.later n.rest (subst (λ events. Messages c.input events n.rest) (sym (append_assoc c.done (event ∷ []) n.later)) n.events)

-- ---- how a connection stands

-- It goes on; or it switched protocols; or a malformed message was refused.
pub data Stands (may_give : ℕ → Type 0) (c : Connection) (items : List Item) : Type 0 where
  going : c.switched ≡ false → NoBad c.done → AllByRecursion IsPlain items → c.output ≡ output_of c.done items None → Stands may_give c items
  switched : c.switched ≡ true → UpgradesLast items → ends_upgraded items ≡ true → c.output ≡ output_of c.done items None → Stands may_give c items
  refused : (moment : ℕ) → has_bad c.done ≡ true → IsClockMoment may_give moment → AllByRecursion IsPlain items → c.output ≡ output_of c.done items (Some moment) → Stands may_give c items

-- no interim is next
abbrev pub IsQuiet : Connection → Type 0
IsQuiet d = (later : List Heard) (rest : ℕ) → Messages d.input (d.done ++ later) rest → d.switched ≡ false → interims_text later ≡ []

abbrev pub after_interims : Connection → List Heard → Connection
after_interims old later = record old {
  output = old.output ++ interims_text later;
  done = old.done ++ first_interims later;
}

pub after_none : (old : Connection) → after_interims old [] ≡ old
after_none old = λ i. record old { output = append-nil old.output i; done = append-nil old.done i }

quiet_after : (laws : MessageLaws) (old : Connection) (later : List Heard) (rest : ℕ) → Messages old.input (old.done ++ later) rest → IsQuiet (after_interims old later)
quiet_after laws old later rest m more left n here =
    let all : (old.done ++ first_interims later) ++ more ≡ old.done ++ later = laws.once old.input ((old.done ++ first_interims later) ++ more) (old.done ++ later) left rest n m in
    let one : first_interims later ++ more ≡ later = cancel_left old.done (first_interims later ++ more) later (sym (append_assoc old.done (first_interims later) more) ∙ all) in
    let two : more ≡ later_events later = cancel_left (first_interims later) more (later_events later) (one ∙ interims_first later) in
    ap interims_text two ∙ none_after later

module _ (may_give : ℕ → Type 0) (asking : Request → AskedAgent) where
  pub record Served (history : History) (conn start : ℕ) (c : Connection) : Type 0 where
    pub items : List Item
    pub first : AreFirstEvents c.input c.done
    pub requests : map (λ (i : Item). i.request) items ≡ requests_of c.done
    pub numbers : map (λ (i : Item). i.number) items ≡ range_with_len 1 (length items)
    pub asked : AllByRecursion (λ (i : Item). i.asked ≡ asking i.request) items
    pub answers : AllByRecursion (IsItem may_give conn history) items
    pub places : NeverFalls start (flat_map places_of items) c.seen
    pub stands : Stands may_give c items

  item_count : (history : History) (conn start : ℕ) (c : Connection) (s : Served history conn start c) → length s.items ≡ length (requests_of c.done)
  item_count history conn start c s = sym (length-map (λ (i : Item). i.request) s.items) ∙ ap length s.requests

  -- more of the history
  pub served_grows : (history : History) (more : List Entry) (conn start : ℕ) (c : Connection) → Served history conn start c → Served (longer history more) conn start c
  served_grows history more conn start c s = record {
    items = s.items;
    first = s.first;
    requests = s.requests;
    numbers = s.numbers;
    asked = s.asked;
    answers = items_grow may_give conn history more s.items s.answers;
    places = s.places;
    stands = s.stands;
  }

  -- more input
  stands_input : (c : Connection) (piece : List ℕ) (items : List Item) → Stands may_give c items → Stands may_give (with_input c piece) items
  stands_input c piece items (going a b d e) = going a b d e
  stands_input c piece items (switched a b d e) = switched a b d e
  stands_input c piece items (refused m a b d e) = refused m a b d e

  pub served_input : (history : History) (conn start : ℕ) (c : Connection) (piece : List ℕ) → Served history conn start c → Served history conn start (with_input c piece)
  served_input history conn start c piece s = record {
    items = s.items;
    first = first_longer c.input piece c.done s.first;
    requests = s.requests;
    numbers = s.numbers;
    asked = s.asked;
    answers = s.answers;
    places = s.places;
    stands = stands_input c piece s.items s.stands;
  }

  module _ (laws : MessageLaws) (history : History) (conn start : ℕ) (c : Connection) (s : Served history conn start c) where
    -- nothing follows a refusal
    none_next : has_bad c.done ≡ true → (more : List Heard) (rest : ℕ) → Messages c.input (c.done ++ more) rest → more ≡ []
    none_next bad more rest m = nothing_more 0 c.done more bad (laws.ends c.input (c.done ++ more) rest m)

    record Going : Type 0 where
      not_switched : c.switched ≡ false
      no_bad : NoBad c.done
      plain : AllByRecursion IsPlain s.items
      written : c.output ≡ output_of c.done s.items None

    is_going : c.switched ≡ false → (has_bad c.done ≡ true → ⊥) → Stands may_give c s.items → Going
    is_going here none_bad (going a b d e) = record { not_switched = a; no_bad = b; plain = d; written = e }
    is_going here none_bad (switched a b d e) = absurd (true≢false (sym a ∙ here))
      where
        true≢false : true ≡ false → ⊥
        true≢false e = cc e
    is_going here none_bad (refused m a b d e) = absurd (none_bad a)

    -- where an event is next, the connection goes on
    next_going : (event : Heard) → c.switched ≡ false → AreFirstEvents c.input (c.done ++ event ∷ []) → Going
    next_going event here f = is_going here (λ bad.
        let more = first_rest f in
        let none = nothing_more 0 c.done (event ∷ more.0) bad (subst (NothingAfterEnd 0) more.1 (laws.ends f.prefix f.all f.rest f.messages)) in
        absurd (cc none)) s.stands
      where
        first_rest : (f : AreFirstEvents c.input (c.done ++ event ∷ [])) → (more : List Heard) × (f.all ≡ c.done ++ event ∷ more)
        first_rest f = (f.first.0, sym f.first.1 ∙ append_assoc c.done (event ∷ []) f.first.0)

    -- ---- a request is answered

    module _ (item : Item) (here : c.switched ≡ false) (f : AreFirstEvents c.input (c.done ++ heard.Request item.request ∷ [])) where
      answer_written : Going → c.output ++ item_text item ≡ output_of (c.done ++ heard.Request item.request ∷ []) (s.items ++ item ∷ []) None
      answer_written g =
          ap (λ text. text ++ item_text item) g.written
          ∙ ap (λ text. output_of c.done s.items None ++ text) (sym (item_written item.request item))
          ∙ sym (output_grows c.done (heard.Request item.request ∷ []) s.items (item ∷ []) None g.no_bad g.plain (item_count history conn start c s))

      answer_stands : (seen : ℕ) (b : Bool) → upgrades item.outcome ≡ b → Going → Stands may_give (with_answer c item seen) (s.items ++ item ∷ [])
      answer_stands seen false is g = going is (no_bad_append c.done (heard.Request item.request ∷ []) g.no_bad tt) (all_snoc IsPlain s.items item g.plain is) (answer_written g)
      answer_stands seen true is g = switched is (plain_last s.items item g.plain) (last_upgraded s.items item is) (answer_written g)

      pub served_answer : (seen : ℕ) → item.number ≡ request_number c → item.asked ≡ asking item.request → IsItem may_give conn history item → NeverFalls c.seen (places_of item) seen → Served history conn start (with_answer c item seen)
      served_answer seen number asked is falls = record {
        items = s.items ++ item ∷ [];
        first = f;
        requests = map_snoc (λ (i : Item). i.request) s.items item ∙ (ap (λ rest. rest ++ item.request ∷ []) s.requests ∙ sym (requests_append c.done (heard.Request item.request ∷ [])));
        numbers =
            let count : length (s.items ++ item ∷ []) ≡ length s.items + 1 = length-append s.items (item ∷ []) in
            let this : item.number ≡ 1 + length s.items = omega (arith, number, item_count history conn start c s) in
            map_snoc (λ (i : Item). i.number) s.items item
            ∙ (ap (λ rest. rest ++ item.number ∷ []) s.numbers ∙ ap (λ n. range_with_len 1 (length s.items) ++ n ∷ []) this)
            ∙ (sym (range_snoc 1 (length s.items)) ∙ ap (range_with_len 1) (sym count));
        asked = all_snoc (λ (i : Item). i.asked ≡ asking i.request) s.items item s.asked asked;
        answers = all_snoc (IsItem may_give conn history) s.items item s.answers is;
        places =
            let are : flat_map places_of (s.items ++ item ∷ []) ≡ flat_map places_of s.items ++ places_of item =
            flat_map-append places_of s.items (item ∷ []) ∙ ap (λ rest. flat_map places_of s.items ++ rest) (append-nil (places_of item)) in
            subst (λ xs. NeverFalls start xs seen) (sym are) (falls_append start c.seen seen (flat_map places_of s.items) (places_of item) s.places falls);
        stands = answer_stands seen (upgrades item.outcome) refl (next_going (heard.Request item.request) here f);
      }

    -- ---- a malformed message is refused

    pub served_refusal : (status moment seen : ℕ) → IsNextEvent c (heard.Bad status) → IsClockMoment may_give moment → c.seen ≤ seen → Served history conn start (with_refusal c status moment seen)
    served_refusal status moment seen next clock later =
        let first = next_first c (heard.Bad status) next in
        let g = next_going (heard.Bad status) next.not_switched first in record {
          items = s.items;
          first = first;
          requests = s.requests ∙ (sym (append-nil (requests_of c.done)) ∙ sym (requests_append c.done (heard.Bad status ∷ [])));
          numbers = s.numbers;
          asked = s.asked;
          answers = s.answers;
          places = subst (λ xs. NeverFalls start xs seen) (append-nil (flat_map places_of s.items)) (falls_append start c.seen seen (flat_map places_of s.items) [] s.places later);
          stands = refused moment (bad_after c.done status []) clock g.plain
              (ap (λ text. text ++ refusal_text status (Some moment)) g.written
              ∙ sym (output_grows c.done (heard.Bad status ∷ []) s.items [] (Some moment) g.no_bad g.plain (item_count history conn start c s))
              ∙ ap (λ is. output_of (c.done ++ heard.Bad status ∷ []) is (Some moment)) (append-nil s.items));
        }

    -- ---- the interims that are next are written

    module _ (later : List Heard) (rest : ℕ) (m : Messages c.input (c.done ++ later) rest) (here : c.switched ≡ false) where
      first_interims_done : AreFirstEvents c.input (c.done ++ first_interims later)
      first_interims_done =
          let all : c.done ++ later ≡ (c.done ++ first_interims later) ++ later_events later = ap (λ l. c.done ++ l) (interims_first later) ∙ sym (append_assoc c.done (first_interims later) (later_events later)) in
          first_of_parse c.input (c.done ++ first_interims later) (later_events later) rest (subst (λ events. Messages c.input events rest) all m)

      with_interims : Stands may_give (after_interims c later) s.items → Served history conn start (after_interims c later)
      with_interims stands = record {
        items = s.items;
        first = first_interims_done;
        requests = s.requests ∙ (sym (append-nil (requests_of c.done)) ∙ (ap (λ l. requests_of c.done ++ l) (sym (interims_no_request later)) ∙ sym (requests_append c.done (first_interims later))));
        numbers = s.numbers;
        asked = s.asked;
        answers = s.answers;
        places = s.places;
        stands = stands;
      }

      interims_served : Stands may_give c s.items → Served history conn start (after_interims c later)
      interims_served (going a b d e) = with_interims (going a (no_bad_append c.done (first_interims later) b (interims_no_bad later)) d
          (ap (λ text. text ++ interims_text later) e
          ∙ ap (λ text. output_of c.done s.items None ++ text) (sym (first_written later))
          ∙ sym (output_grows c.done (first_interims later) s.items [] None b d (item_count history conn start c s))
          ∙ ap (λ is. output_of (c.done ++ first_interims later) is None) (append-nil s.items)))
      interims_served (switched a b d e) = absurd (true≢false (sym a ∙ here))
        where
          true≢false : true ≡ false → ⊥
          true≢false e = cc e
      interims_served (refused moment a b d e) =
          let none : later ≡ [] = none_next a later rest m in
          subst (Served history conn start) (sym (ap (after_interims c) none ∙ after_none c)) s

    pub record Settled (d : Connection) : Type 0 where
      pub served : Served history conn start d
      pub quiet : IsQuiet d
      pub seen : d.seen ≡ c.seen

    pub settled : (d : Connection) → IsSettled (Some c) (Some d) → Settled d
    settled d (inl (was, same)) = record {
      served = subst (Served history conn start) (sym same) s;
      quiet = λ later rest m here. absurd (true≢false (sym was ∙ (ap (λ (k : Connection). k.switched) (sym same) ∙ here)));
      seen = ap (λ (k : Connection). k.seen) same;
    }
      where
        true≢false : true ≡ false → ⊥
        true≢false e = cc e
    settled d (inr w) = record {
      served = subst (Served history conn start) (sym w.new_is) (interims_served w.later w.rest w.events w.not_switched s.stands);
      quiet = subst IsQuiet (sym w.new_is) (quiet_after laws c w.later w.rest w.events);
      seen = ap (λ (k : Connection). k.seen) w.new_is;
    }

    -- ---- the session

    module _ (quiet : IsQuiet c) (heard_all : List Heard) (rest : ℕ) (m : Messages c.input heard_all rest) where
      pub record HasSession : Type 0 where
        pub session : Session
        pub conn_is : session.conn ≡ conn
        pub history_is : session.history ≡ history
        pub is_session : IsSession may_give asking heard_all start session c.seen
        pub written : c.output ≡ output heard_all session

      behind : IsPrefix c.done heard_all
      behind = laws.stay c.input c.done heard_all rest s.first m

      parse : Messages c.input (c.done ++ behind.0) rest
      parse = subst (λ events. Messages c.input events rest) (sym behind.1) m

      has_session : (refusal : Option ℕ) → UpgradesLast s.items → IfSome refusal (IsRefused may_give heard_all s.items) → c.output ≡ output_of heard_all s.items refusal → HasSession
      has_session refusal last refused_is written = record {
        session = record { conn = conn; items = s.items; refusal = refusal; history = history };
        conn_is = refl;
        history_is = refl;
        is_session = record {
          requests = (requests_of behind.0, ap (λ l. l ++ requests_of behind.0) s.requests ∙ (sym (requests_append c.done behind.0) ∙ ap requests_of behind.1));
          numbers = s.numbers;
          asked = s.asked;
          answers = s.answers;
          places = s.places;
          last = last;
          refused = refused_is;
        };
        written = written;
      }

      sessions : Stands may_give c s.items → HasSession
      sessions (going a b d e) = has_session None (plain_all s.items d) tt
          (e ∙ (sym (append-nil (output_of c.done s.items None))
          ∙ ap (λ text. output_of c.done s.items None ++ text) (sym (interims_written behind.0 ∙ quiet behind.0 rest parse a))
          ∙ (sym (output_grows c.done behind.0 s.items [] None b d (item_count history conn start c s))
          ∙ (ap (λ is. output_of (c.done ++ behind.0) is None) (append-nil s.items)
          ∙ ap (λ events. output_of events s.items None) behind.1))))
      sessions (switched a b d e) = has_session None b tt
          (e ∙ (sym (output_stops c.done behind.0 s.items None d (omega (arith, item_count history conn start c s)))
          ∙ ap (λ events. output_of events s.items None) behind.1))
      sessions (refused moment a b d e) =
          let none : behind.0 ≡ [] = none_next a behind.0 rest parse in
          let same : heard_all ≡ c.done = sym behind.1 ∙ (ap (λ l. c.done ++ l) none ∙ append-nil c.done) in
          has_session (Some moment) (plain_all s.items d)
          (record {
            bad = ap has_bad same ∙ a;
            all = item_count history conn start c s ∙ ap (λ events. length (requests_of events)) (sym same);
            open_still = plain_open s.items d;
            clock = b;
          })
          (e ∙ ap (λ events. output_of events s.items (Some moment)) (sym same))

      pub session_of : HasSession
      session_of = sessions s.stands
