-- The run of one connection as events of a world.
use Rattle.std.proofs.Common.{◌≡◌, ◌⊎◌, inl, inr, ℕ, ◌+◌, ◌≤◌, true, false, List, [], ◌∷◌, ◌++◌, length, map, Option, Some, None, IfSome, refl, sym, ap, subst, append_assoc, length-append, ◌∙◌, arith}
use Rattle.std.specs.List.{AllByRecursion, range_with_len}
use Rattle.std.proofs.lemmas.List.{append-nil}
use mathlib.Core.List.{IsPrefix}
use Rattle.http_conn.specs.Messages.{Messages, unfinished, in_head}
use Rattle.http_conn.proofs.EndLemmas.{ends_there}
use Rattle.http_conn.proofs.LongerTexts.{events_stay_first}
use Rattle.http_conn.proofs.Parses.{messages_one}
use Rattle.pod_base.specs.declared.heard.Heard.{Heard}
use Rattle.pod_base.specs.declared.heard.Heard.TheVariants as heard
use Rattle.pod_base.specs.declared.request.Request.{Request}
use Rattle.pod_command.specs.declared.entry.Entry.{Entry}
use Rattle.pod_core.specs.History.{History, end_of}
use Rattle.pod_core.specs.Output.{item_text, output_of}
use Rattle.pod_core.specs.Session.{IsRefused, Item, UpgradesLast, ends_upgraded, has_bad, requests_of, upgrades}
use Rattle.pod_core.specs.World.{Connection, IsNextEvent, IsSettled, first_interims, interims_text, request_number, with_answer, with_input, with_refusal}
use Rattle.token_table.specs.Credentials.{AskedAgent}
use Rattle.conn_talk.specs.Walks.{Walk}
use Rattle.conn_talk.proofs.WalkLemmas.{walk_later}
use Rattle.world_laws.proofs.WorldLists.{IsPlain, NoBad, all_snoc, bad_after, first_written, interims_first, interims_no_bad, interims_no_request, item_written, last_upgraded, later_events, no_bad_append, nothing_more, output_grows, output_stops, requests_append}
use Rattle.pod_serve.specs.Served.{ArePieces, pieces_text}
use Rattle.pod_serve.specs.WorldRuns.{Answers, AnswersEach, Arrives, IsRun, ReadTurn, Refuses, Runs, fresh_connection, items_in}
use Rattle.pod_serve.proofs.WorldStepLemmas.{answers_one, arrives, looks, seen_after, seen_one}

-- no request and no interim is next
abbrev IsIdle : List Heard → Type 0
IsIdle [] = Unit {0}
IsIdle (heard.Bad status ∷ events) = Unit {0}
IsIdle (heard.Request request ∷ events) = ⊥
IsIdle (heard.Interim ∷ events) = ⊥

no_first : (later : List Heard) → first_interims (later_events later) ≡ []
no_first [] = refl
no_first (heard.Interim ∷ later) = no_first later
no_first (heard.Request r ∷ later) = refl
no_first (heard.Bad status ∷ later) = refl

last_tail : (item : Item) (items : List Item) → UpgradesLast (item ∷ items) → UpgradesLast items
last_tail item [] h = tt
last_tail item (other ∷ items) h = h.1

none_after_upgrade : (item : Item) (items : List Item) → UpgradesLast (item ∷ items) → upgrades item.outcome ≡ true → items ≡ []
none_after_upgrade item [] h u = refl
none_after_upgrade item (other ∷ items) h u = absurd (cc (sym u ∙ h.0))

abbrev after_interims : Connection → List Heard → Connection
after_interims old later = record old {
  output = old.output ++ interims_text later;
  done = old.done ++ first_interims later;
}

module _ (kept : History → Type 0) (first : ℕ) (may_give : ℕ → Type 0) (asking : Request → AskedAgent) (conn : ℕ) (ends : (history : History) → kept history → end_of history ≡ first)
    (read : List ℕ) (events : List Heard) (all_rest : ℕ) (whole : Messages read events all_rest) (last_seen : List Entry) where
  -- A connection whose next events are these: all before them was answered, by these items.
  record Open (front : List Item) (c : Connection) (later : List Heard) (rest : ℕ) : Type 0 where
    here : c.switched ≡ false
    bad : NoBad c.done
    plain : AllByRecursion IsPlain front
    count : length front ≡ length (requests_of c.done)
    output : c.output ≡ output_of c.done front None
    parse : Messages c.input (c.done ++ later) rest
    of : IsPrefix (c.done ++ later) events

  -- The same where no interim is next.
  record Going (front : List Item) (c : Connection) : Type 0 where
    later : List Heard
    rest : ℕ
    open_still : Open front c later rest
    quiet : first_interims later ≡ []

  -- A connection that switched protocols.
  record Stopped (front : List Item) (c : Connection) : Type 0 where
    was : c.switched ≡ true
    upgraded : ends_upgraded front ≡ true
    count : length front ≡ length (requests_of c.done)
    output : c.output ≡ output_of c.done front None
    of : IsPrefix c.done events

  -- the items that are left for a connection
  record Owed (front back : List Item) (c : Connection) (seen : List Entry) : Type 0 where
    numbers : map (λ (i : Item). i.number) back ≡ range_with_len (length front + 1) (length back)
    asked : AllByRecursion (λ (i : Item). i.asked ≡ asking i.request) back
    walk : Walk kept first conn may_give seen back last_seen
    last : UpgradesLast back
    requests : (ahead : List Heard) → c.done ++ ahead ≡ events → IsPrefix (map (λ (i : Item). i.request) back) (requests_of ahead)
    seen_at : c.seen ≤ first + length seen

  abbrev Continues : List Item → List Item → Connection → Type 0
  Continues front back c = ((g : Going front c) × (seen : List Entry) × Owed front back c seen × ((back ≡ []) ⊎ IsIdle g.later))
      ⊎ (Stopped front c × (back ≡ []))

  -- ---- the interims that are next are written

  module _ (front : List Item) (c : Connection) (later : List Heard) (rest : ℕ) (o : Open front c later rest) where
    settles : IsSettled (Some c) (Some (after_interims c later))
    settles = inr (record { later = later; rest = rest; events = o.parse; not_switched = o.here; new_is = refl })

    same_events : (c.done ++ first_interims later) ++ later_events later ≡ c.done ++ later
    same_events = append_assoc c.done (first_interims later) (later_events later) ∙ ap (λ h. c.done ++ h) (sym (interims_first later))

    same_requests : requests_of (c.done ++ first_interims later) ≡ requests_of c.done
    same_requests = requests_append c.done (first_interims later) ∙ (ap (λ rs. requests_of c.done ++ rs) (interims_no_request later) ∙ append-nil (requests_of c.done))

    settled_going : Going front (after_interims c later)
    settled_going = record {
      later = later_events later;
      rest = rest;
      open_still = record {
        here = o.here;
        bad = no_bad_append c.done (first_interims later) o.bad (interims_no_bad later);
        plain = o.plain;
        count = o.count ∙ ap length (sym same_requests);
        output = ap (λ text. text ++ interims_text later) o.output
            ∙ (ap (λ text. output_of c.done front None ++ text) (sym (first_written later))
            ∙ (sym (output_grows c.done (first_interims later) front [] None o.bad o.plain o.count)
            ∙ ap (λ is. output_of (c.done ++ first_interims later) is None) (append-nil front)));
        parse = subst (λ h. Messages c.input h rest) (sym same_events) o.parse;
        of = subst (λ h. IsPrefix h events) (sym same_events) o.of;
      };
      quiet = no_first later;
    }

    settled_owed : (back : List Item) (seen : List Entry) → Owed front back c seen → Owed front back (after_interims c later) seen
    settled_owed back seen w = record {
      numbers = w.numbers;
      asked = w.asked;
      walk = w.walk;
      last = w.last;
      requests = λ ahead is. subst (IsPrefix (map (λ (i : Item). i.request) back)) (requests_append (first_interims later) ahead ∙ ap (λ rs. rs ++ requests_of ahead) (interims_no_request later))
          (w.requests (first_interims later ++ ahead) (sym (append_assoc c.done (first_interims later) ahead) ∙ is));
      seen_at = w.seen_at;
    }

  -- ---- the requests of what was read are answered

  record Answered (front back : List Item) (c : Connection) : Type 0 where
    taken : List Item
    left : List Item
    cut : taken ++ left ≡ back
    to : Connection
    each : AnswersEach kept may_give asking conn last_seen c taken to
    input : to.input ≡ c.input
    now : List Item
    now_is : front ++ taken ≡ now
    state : Continues now left to

  none_answered : (front back : List Item) (c : Connection) → Continues front back c → Answered front back c
  none_answered front back c state = record { taken = []; left = back; cut = refl; to = c; each = refl; input = refl; now = front; now_is = append-nil front; state = state }

  one_answered : (front items : List Item) (item : Item) (c mid : Connection) → Answers kept may_give asking conn last_seen c item item.outcome mid → mid.input ≡ c.input → Answered (front ++ item ∷ []) items mid → Answered front (item ∷ items) c
  one_answered front items item c mid answers same a = record {
    taken = item ∷ a.taken;
    left = a.left;
    cut = ap (λ l. item ∷ l) a.cut;
    to = a.to;
    each = (mid, answers, a.each);
    input = a.input ∙ same;
    now = a.now;
    now_is = sym (append_assoc front (item ∷ []) a.taken) ∙ a.now_is;
    state = a.state;
  }

  module _ (front items : List Item) (item : Item) (c : Connection) (seen : List Entry) (g : Going front c) (w : Owed front (item ∷ items) c seen) (l : List Heard) (next : g.later ≡ heard.Request item.request ∷ l) where
    abbrev o : Open front c g.later g.rest
    o = g.open_still

    next_is : IsNextEvent c (heard.Request item.request)
    next_is = record { later = l; rest = g.rest; events = subst (λ h. Messages c.input (c.done ++ h) g.rest) next o.parse; not_switched = o.here }

    abbrev mid : Connection
    mid = with_answer c item (seen_after c item item.outcome)

    -- all events so far
    through : mid.done ++ l ≡ c.done ++ g.later
    through = append_assoc c.done (heard.Request item.request ∷ []) l ∙ ap (λ h. c.done ++ h) (sym next)

    number_is : item.number ≡ request_number c
    number_is =
        let one : item.number ≡ length front + 1 = cc w.numbers in
        omega (arith, one, o.count)

    count_now : length (front ++ item ∷ []) ≡ length (requests_of mid.done)
    count_now = omega (arith, length-append front (item ∷ []), o.count, ap length (requests_append c.done (heard.Request item.request ∷ [])), length-append (requests_of c.done) (item.request ∷ []))

    written : mid.output ≡ output_of mid.done (front ++ item ∷ []) None
    written = ap (λ text. text ++ item_text item) o.output
        ∙ (ap (λ text. output_of c.done front None ++ text) (sym (item_written item.request item))
        ∙ sym (output_grows c.done (heard.Request item.request ∷ []) front (item ∷ []) None o.bad o.plain o.count))

    answers_to : (to : Connection) → IsSettled (Some mid) (Some to) → Answers kept may_give asking conn last_seen c item item.outcome to
    answers_to to settled_so = answers_one kept first may_give asking conn ends c item next_is number_is w.asked.0 seen w.walk.0 last_seen (walk_later kept first conn may_give items w.walk.0 last_seen w.walk.2) w.seen_at w.walk.1.0 w.walk.1.1 to w.walk.1.2 settled_so

    tail_requests : (ahead : List Heard) → mid.done ++ ahead ≡ events → IsPrefix (map (λ (i : Item). i.request) items) (requests_of ahead)
    tail_requests ahead is =
        let p = w.requests (heard.Request item.request ∷ ahead) (sym (append_assoc c.done (heard.Request item.request ∷ []) ahead) ∙ is) in
        (p.0, cc p.1)

    owed_next : Owed (front ++ item ∷ []) items mid w.walk.0
    owed_next = record {
      numbers =
          let tail : map (λ (i : Item). i.number) items ≡ range_with_len (length front + 1 + 1) (length items) = cc w.numbers in
          tail ∙ ap (λ n. range_with_len (n + 1) (length items)) (sym (length-append front (item ∷ [])));
      asked = w.asked.1;
      walk = w.walk.2;
      last = last_tail item items w.last;
      requests = tail_requests;
      seen_at = seen_one kept first may_give asking conn ends c item next_is number_is w.asked.0 seen w.walk.0 last_seen (walk_later kept first conn may_give items w.walk.0 last_seen w.walk.2) w.seen_at w.walk.1.0 w.walk.1.1 mid w.walk.1.2;
    }

    -- it switched protocols
    upgraded_so : upgrades item.outcome ≡ true → Answered front (item ∷ items) c
    upgraded_so u =
        let none = none_after_upgrade item items w.last u in
        let of : IsPrefix mid.done events = (l ++ o.of.0, sym (append_assoc mid.done l o.of.0) ∙ (ap (λ h. h ++ o.of.0) through ∙ o.of.1)) in
        one_answered front items item c mid (answers_to mid (inl (u, refl))) refl
        (none_answered (front ++ item ∷ []) items mid (inr (record { was = u; upgraded = last_upgraded front item u; count = count_now; output = written; of = of }, none)))

    -- or not
    open_next : upgrades item.outcome ≡ false → Open (front ++ item ∷ []) mid l g.rest
    open_next u = record {
      here = u;
      bad = no_bad_append c.done (heard.Request item.request ∷ []) o.bad tt;
      plain = all_snoc IsPlain front item o.plain u;
      count = count_now;
      output = written;
      parse = subst (λ h. Messages c.input h g.rest) (sym through) o.parse;
      of = subst (λ h. IsPrefix h events) (sym through) o.of;
    }

    goes_on : ((now : List Item) (d : Connection) (seen_now : List Entry) → Going now d → Owed now items d seen_now → Answered now items d) → upgrades item.outcome ≡ false → Answered front (item ∷ items) c
    goes_on more u =
        let n = open_next u in
        let to = after_interims mid l in
        one_answered front items item c to (answers_to to (settles (front ++ item ∷ []) mid l g.rest n)) refl
        (more (front ++ item ∷ []) to w.walk.0 (settled_going (front ++ item ∷ []) mid l g.rest n) (settled_owed (front ++ item ∷ []) mid l g.rest n items w.walk.0 owed_next))

    answered_next : ((now : List Item) (d : Connection) (seen_now : List Entry) → Going now d → Owed now items d seen_now → Answered now items d) → Answered front (item ∷ items) c
    answered_next more = elim (upgrades item.outcome) as (λ b. upgrades item.outcome ≡ b → Answered front (item ∷ items) c) [
      | true ↦ λ u. upgraded_so u
      | false ↦ λ u. goes_on more u
    ] refl

  -- by the next event
  by_next : (front items : List Item) (item : Item) (c : Connection) (seen : List Entry) (g : Going front c) (w : Owed front (item ∷ items) c seen)
      → ((now : List Item) (d : Connection) (seen_now : List Entry) → Going now d → Owed now items d seen_now → Answered now items d) → (later : List Heard) → g.later ≡ later → Answered front (item ∷ items) c
  by_next front items item c seen g w more [] is = none_answered front (item ∷ items) c (inl (g, seen, w, inr (subst IsIdle (sym is) tt)))
  by_next front items item c seen g w more (heard.Bad status ∷ l) is = none_answered front (item ∷ items) c (inl (g, seen, w, inr (subst IsIdle (sym is) tt)))
  by_next front items item c seen g w more (heard.Interim ∷ l) is = absurd (cc (ap first_interims (sym is) ∙ g.quiet))
  by_next front items item c seen g w more (heard.Request r ∷ l) is =
      let all : c.done ++ (heard.Request r ∷ (l ++ g.open_still.of.0)) ≡ events = sym (append_assoc c.done (heard.Request r ∷ l) g.open_still.of.0) ∙ (ap (λ h. (c.done ++ h) ++ g.open_still.of.0) (sym is) ∙ g.open_still.of.1) in
      let p = w.requests (heard.Request r ∷ (l ++ g.open_still.of.0)) all in
      let same : r ≡ item.request = cc (sym p.1) in
      answered_next front items item c seen g w l (is ∙ ap (λ q. heard.Request q ∷ l) same) more

  answer_all : (back front : List Item) (c : Connection) (seen : List Entry) → Going front c → Owed front back c seen → Answered front back c
  answer_all [] front c seen g w = none_answered front [] c (inl (g, seen, w, inl refl))
  answer_all (item ∷ items) front c seen g w = by_next front items item c seen g w (answer_all items) g.later refl

  -- ---- the reads

  -- what was read until then has these events
  next_parse : (count : ℕ) (pieces : List (List ℕ)) (text : List ℕ) → ArePieces count text pieces → text ++ pieces_text pieces ≡ read → (hears : List Heard) × (rest : ℕ) × Messages text hears rest
  next_parse count [] text a is = (events, all_rest, subst (λ t. Messages t events all_rest) (sym is ∙ append-nil text) whole)
  next_parse count (piece ∷ pieces) text a is = (a.0.events, a.0.rest, a.0.messages)

  record Run (pieces : List (List ℕ)) (front back : List Item) (c : Connection) : Type 0 where
    turns : List ReadTurn
    pieces_are : map (λ (turn : ReadTurn). turn.piece) turns ≡ pieces
    items_are : items_in turns ≡ back
    mid : Connection
    runs : Runs kept may_give asking conn last_seen c turns mid
    input : mid.input ≡ read
    state : Continues (front ++ back) [] mid

  -- no request is left where none is next
  idle_none : (count : ℕ) (done later : List Heard) (rest : ℕ) (text : List ℕ) → Messages text (done ++ later) rest → IsIdle later → requests_of later ≡ []
  idle_none count done [] rest text m idle = refl
  idle_none count done (heard.Bad status ∷ l) rest text m idle =
      let all : (done ++ heard.Bad status ∷ []) ++ l ≡ done ++ heard.Bad status ∷ l = append_assoc done (heard.Bad status ∷ []) l in
      ap requests_of (nothing_more 0 (done ++ heard.Bad status ∷ []) l (bad_after done status []) (ends_there text ((done ++ heard.Bad status ∷ []) ++ l) rest (subst (λ h. Messages text h rest) (sym all) m)))
  idle_none count done (heard.Request r ∷ l) rest text m idle = absurd idle
  idle_none count done (heard.Interim ∷ l) rest text m idle = absurd idle

  no_items : (back : List Item) (rs : List Request) → IsPrefix (map (λ (i : Item). i.request) back) rs → rs ≡ [] → back ≡ []
  no_items [] rs p none = refl
  no_items (item ∷ back) rs p none = absurd (cc (p.1 ∙ none))

  none_left : (front back : List Item) (c : Connection) (seen : List Entry) (g : Going front c) → Owed front back c seen → c.input ≡ read → (back ≡ []) ⊎ IsIdle g.later → back ≡ []
  none_left front back c seen g w is (inl none) = none
  none_left front back c seen g w is (inr idle) =
      let there : Messages read (c.done ++ g.later) g.rest = subst (λ t. Messages t (c.done ++ g.later) g.rest) is g.open_still.parse in
      let all : c.done ++ g.later ≡ events = (messages_one read (c.done ++ g.later) events g.rest all_rest there whole).0 in
      no_items back (requests_of g.later) (w.requests g.later all) (idle_none 0 c.done g.later g.rest c.input g.open_still.parse idle)

  ended_run : (front back : List Item) (c : Connection) → c.input ++ [] ≡ read → Continues front back c → Run [] front back c
  ended_run front back c is (inl (g, seen, w, idle)) =
      let input : c.input ≡ read = sym (append-nil c.input) ∙ is in
      let none : back ≡ [] = none_left front back c seen g w input idle in
      let same : front ≡ front ++ back = sym (append-nil front) ∙ ap (λ b. front ++ b) (sym none) in record {
        turns = [];
        pieces_are = refl;
        items_are = sym none;
        mid = c;
        runs = refl;
        input = input;
        state = subst (λ f. Continues f [] c) same (inl (g, seen, subst (λ b. Owed front b c seen) none w, inl refl));
      }
  ended_run front back c is (inr (s, none)) =
      let same : front ≡ front ++ back = sym (append-nil front) ∙ ap (λ b. front ++ b) (sym none) in record {
        turns = [];
        pieces_are = refl;
        items_are = sym none;
        mid = c;
        runs = refl;
        input = sym (append-nil c.input) ∙ is;
        state = subst (λ f. Continues f [] c) same (inr (s, refl));
      }

  one_read : (piece : List ℕ) (pieces : List (List ℕ)) (front back : List Item) (c arrived : Connection) → Arrives kept may_give asking conn last_seen c piece arrived → (a : Answered front back arrived) → Run pieces a.now a.left a.to → Run (piece ∷ pieces) front back c
  one_read piece pieces front back c arrived arrival a r = record {
    turns = record { piece = piece; items = a.taken } ∷ r.turns;
    pieces_are = ap (λ ps. piece ∷ ps) r.pieces_are;
    items_are = ap (λ is. a.taken ++ is) r.items_are ∙ a.cut;
    mid = r.mid;
    runs = (arrived, a.to, arrival, a.each, r.runs);
    input = r.input;
    state = subst (λ f. Continues f [] r.mid) (ap (λ f. f ++ a.left) (sym a.now_is) ∙ (append_assoc front a.taken a.left ∙ ap (λ b. front ++ b) a.cut)) r.state;
  }

  module _ (count : ℕ) (piece : List ℕ) (pieces : List (List ℕ)) (front back : List Item) (c : Connection) (is : c.input ++ (piece ++ pieces_text pieces) ≡ read) (a : ArePieces count c.input (piece ∷ pieces))
      (more : (now left : List Item) (d : Connection) → d.input ++ pieces_text pieces ≡ read → ArePieces count d.input pieces → Continues now left d → Run pieces now left d) where
    reads_on : (c.input ++ piece) ++ pieces_text pieces ≡ read
    reads_on = append_assoc c.input piece (pieces_text pieces) ∙ is

    going_on : (arrived : Connection) → arrived.input ≡ c.input ++ piece → Arrives kept may_give asking conn last_seen c piece arrived → Answered front back arrived → Run (piece ∷ pieces) front back c
    going_on arrived same arrival answered =
        let input : c.input ++ piece ≡ answered.to.input = sym (answered.input ∙ same) in
        one_read piece pieces front back c arrived arrival answered
        (more answered.now answered.left answered.to (ap (λ t. t ++ pieces_text pieces) (sym input) ∙ reads_on) (subst (λ t. ArePieces count t pieces) input a.2) answered.state)

    reads_next : Continues front back c → Run (piece ∷ pieces) front back c
    reads_next (inl (g, seen, w, idle)) =
        let p = next_parse count pieces (c.input ++ piece) a.2 reads_on in
        let in_all : IsPrefix p.0 events = events_stay_first read p.0 events all_rest (record { prefix = c.input ++ piece; is_prefix = (pieces_text pieces, reads_on); all = p.0; rest = p.1; messages = p.2; first = ([], append-nil p.0) }) whole in
        let on : IsPrefix c.done p.0 = events_stay_first (c.input ++ piece) c.done p.0 p.1 (record { prefix = c.input; is_prefix = (piece, refl); all = c.done ++ g.later; rest = g.rest; messages = g.open_still.parse; first = (g.later, refl) }) p.2 in
        let with_more = with_input c piece in
        let later = on.0 in
        let o : Open front with_more later p.1 = record {
          here = g.open_still.here;
          bad = g.open_still.bad;
          plain = g.open_still.plain;
          count = g.open_still.count;
          output = g.open_still.output;
          parse = subst (λ h. Messages (c.input ++ piece) h p.1) (sym on.1) p.2;
          of = subst (λ h. IsPrefix h events) (sym on.1) in_all;
        } in
        let owed : Owed front back with_more seen = record { numbers = w.numbers; asked = w.asked; walk = w.walk; last = w.last; requests = w.requests; seen_at = w.seen_at } in
        let arrived = after_interims with_more later in
        going_on arrived refl (arrives may_give asking conn kept last_seen c piece arrived (settles front with_more later p.1 o))
        (answer_all back front arrived seen (settled_going front with_more later p.1 o) (settled_owed front with_more later p.1 o back seen owed))
    reads_next (inr (s, none)) =
        let arrived = with_input c piece in
        going_on arrived refl (arrives may_give asking conn kept last_seen c piece arrived (inl (s.was, refl)))
        (none_answered front back arrived (inr (record { was = s.was; upgraded = s.upgraded; count = s.count; output = s.output; of = s.of }, none)))

  runs_on : (count : ℕ) (pieces : List (List ℕ)) (front back : List Item) (c : Connection) → c.input ++ pieces_text pieces ≡ read → ArePieces count c.input pieces → Continues front back c → Run pieces front back c
  runs_on count [] front back c is a state = ended_run front back c is state
  runs_on count (piece ∷ pieces) front back c is a state = reads_next count piece pieces front back c is a (runs_on count pieces) state

  -- ---- a malformed message is refused

  record Ending (items : List Item) (refusal : Option ℕ) (mid : Connection) : Type 0 where
    last : Connection
    refuses : Refuses kept may_give asking conn last_seen mid refusal last
    input : last.input ≡ mid.input
    output : last.output ≡ output_of events items refusal

  -- a connection that goes on has written all of its output
  module _ (items : List Item) (mid : Connection) (g : Going items mid) (input : mid.input ≡ read) where
    abbrev g_open : Open items mid g.later g.rest
    g_open = g.open_still

    all_events : mid.done ++ g.later ≡ events
    all_events = (messages_one read (mid.done ++ g.later) events g.rest all_rest (subst (λ t. Messages t (mid.done ++ g.later) g.rest) input g_open.parse) whole).0

    output_then : (refusal : Option ℕ) → mid.output ++ output_of g.later [] refusal ≡ output_of events items refusal
    output_then refusal = ap (λ text. text ++ output_of g.later [] refusal) g_open.output
        ∙ (sym (output_grows mid.done g.later items [] refusal g_open.bad g_open.plain g_open.count)
        ∙ (ap (λ is. output_of (mid.done ++ g.later) is refusal) (append-nil items)
        ∙ ap (λ h. output_of h items refusal) all_events))

    nothing_written : (later : List Heard) → first_interims later ≡ [] → output_of later [] None ≡ []
    nothing_written [] e = refl
    nothing_written (heard.Interim ∷ later) e = absurd (cc e)
    nothing_written (heard.Request r ∷ later) e = refl
    nothing_written (heard.Bad status ∷ later) e = refl

    unrefused : Ending items None mid
    unrefused = record {
      last = mid;
      refuses = refl;
      input = refl;
      output = sym (append-nil mid.output) ∙ (ap (λ text. mid.output ++ text) (sym (nothing_written g.later g.quiet)) ∙ output_then None);
    }

    -- by the next event
    refused_by : (moment : ℕ) → IsRefused may_give events items moment → (later : List Heard) → g.later ≡ later → Ending items (Some moment) mid
    refused_by moment r [] is = absurd (never_bad mid.done g_open.bad (ap has_bad (sym (append-nil mid.done) ∙ (ap (λ h. mid.done ++ h) (sym is) ∙ all_events)) ∙ r.bad))
      where
        never_bad : (done : List Heard) → NoBad done → has_bad done ≡ true → ⊥
        never_bad [] n e = cc
        never_bad (heard.Interim ∷ done) n e = never_bad done n e
        never_bad (heard.Request q ∷ done) n e = never_bad done n e
        never_bad (heard.Bad status ∷ done) n e = n
    refused_by moment r (heard.Interim ∷ l) is = absurd (cc (ap first_interims (sym is) ∙ g.quiet))
    refused_by moment r (heard.Request q ∷ l) is =
        let all : mid.done ++ heard.Request q ∷ l ≡ events = ap (λ h. mid.done ++ h) (sym is) ∙ all_events in
        absurd (omega (arith, r.all, g_open.count, ap (λ h. length (requests_of h)) all, ap length (requests_append mid.done (heard.Request q ∷ l)), length-append (requests_of mid.done) (q ∷ requests_of l)))
    refused_by moment r (heard.Bad status ∷ l) is =
        let last = with_refusal mid status moment mid.seen in
        let parse : Messages mid.input ((mid.done ++ heard.Bad status ∷ []) ++ l) g.rest = subst (λ h. Messages mid.input h g.rest) (ap (λ h. mid.done ++ h) is ∙ sym (append_assoc mid.done (heard.Bad status ∷ []) l)) g_open.parse in
        let none : l ≡ [] = nothing_more 0 (mid.done ++ heard.Bad status ∷ []) l (bad_after mid.done status []) (ends_there mid.input ((mid.done ++ heard.Bad status ∷ []) ++ l) g.rest parse) in
        let next : IsNextEvent mid (heard.Bad status) = record { later = l; rest = g.rest; events = subst (λ h. Messages mid.input (mid.done ++ h) g.rest) is g_open.parse; not_switched = g_open.here } in
        let settled_last : IsSettled (Some last) (Some last) = inr (record {
          later = [];
          rest = g.rest;
          events = subst (λ h. Messages mid.input ((mid.done ++ heard.Bad status ∷ []) ++ h) g.rest) none parse;
          not_switched = g_open.here;
          new_is = λ i. record last { output = sym (append-nil last.output) i; done = sym (append-nil last.done) i };
        }) in
        record {
          last = last;
          refuses = λ world has published. looks may_give asking conn world mid has mid.seen moment last last (omega arith) published r.clock (inr (record { status = status; next = next; new_is = refl })) settled_last;
          input = refl;
          output = ap (λ h. mid.output ++ output_of h [] (Some moment)) (sym is) ∙ output_then (Some moment);
        }

  ending : (items : List Item) (refusal : Option ℕ) (mid : Connection) → mid.input ≡ read → IfSome refusal (IsRefused may_give events items) → Continues items [] mid → Ending items refusal mid
  ending items None mid input r (inl (g, seen, w, idle)) = unrefused items mid g input
  ending items (Some moment) mid input r (inl (g, seen, w, idle)) = refused_by items mid g input moment r g.later refl
  ending items None mid input r (inr (s, none)) = record {
    last = mid;
    refuses = refl;
    input = refl;
    output = s.output ∙ (sym (output_stops mid.done s.of.0 items None s.upgraded (omega (arith, s.count))) ∙ ap (λ h. output_of h items None) s.of.1);
  }
  ending items (Some moment) mid input r (inr (s, none)) = absurd (cc (sym s.upgraded ∙ r.open_still))

  -- ---- the whole

  starts : (place : ℕ) (seen : List Entry) (items : List Item) → Owed [] items (fresh_connection place) seen → Continues [] items (fresh_connection place)
  starts place seen items w = inl (
    record {
      later = [];
      rest = 0;
      open_still = record {
        here = refl;
        bad = tt;
        plain = tt;
        count = refl;
        output = refl;
        parse = unfinished [] [] [] refl (record { few = omega arith; stays = tt }) (in_head refl);
        of = (events, refl);
      };
      quiet = refl;
    },
    seen,
    w,
    inr tt,
  )

  pub is_run : (count : ℕ) (pieces : List (List ℕ)) (items : List Item) (refusal : Option ℕ) (seen : List Entry) → pieces_text pieces ≡ read → ArePieces count [] pieces → map (λ (i : Item). i.number) items ≡ range_with_len 1 (length items)
      → AllByRecursion (λ (i : Item). i.asked ≡ asking i.request) items → Walk kept first conn may_give seen items last_seen → UpgradesLast items → IsPrefix (map (λ (i : Item). i.request) items) (requests_of events) → IfSome refusal (IsRefused may_give events items)
      → (place : ℕ) → place ≤ first + length seen → IsRun kept may_give asking conn last_seen place pieces items refusal read events
  is_run count pieces items refusal seen text a numbers asked walk last requests refused place le =
      let w : Owed [] items (fresh_connection place) seen = record { numbers = numbers; asked = asked; walk = walk; last = last; requests = λ ahead is. subst (λ h. IsPrefix (map (λ (i : Item). i.request) items) (requests_of h)) (sym is) requests; seen_at = le } in
      let r = runs_on count pieces [] items (fresh_connection place) text a (starts place seen items w) in
      let e = ending items refusal r.mid r.input refused r.state in record {
        turns = r.turns;
        pieces_are = r.pieces_are;
        items_are = r.items_are;
        mid = r.mid;
        runs = r.runs;
        last = e.last;
        refuses = e.refuses;
        input = e.input ∙ r.input;
        output = e.output;
      }
