-- The pieces of a connection's bytes, one after the other.
use Rattle.std.proofs.Common.{◌≡◌, ℕ, ◌+◌, ◌≤◌, Bool, true, false, List, [], ◌∷◌, ◌++◌, length, map, inl, inr, Option, Some, None, is_some, IfSome, Ok, Err, refl, sym, ap, subst, append_assoc, length-append, ◌∙◌, arith}
use Rattle.std.specs.List.{AllByRecursion}
use Rattle.std.proofs.lemmas.List.{append-nil, length-map}
use mathlib.Core.List.{IsPrefix}
use Rattle.conn_talk.specs.Talks.{Ends, EndsPart, EndsUnplaced, EndsWhole, MayBeSent, Talks, TurnsIn}
use Rattle.conn_talk.specs.Turns.{Rules}
use Rattle.conn_talk.specs.declared.talk_end.TalkEnd.{TalkEnd}
use Rattle.conn_talk.specs.declared.talk_end.TalkEnd.TheVariants.{Closed, Limit, Upgraded, Bad, WriteFault, NoMemory, NoPlace}
use Rattle.conn_talk.proofs.HeardLemmas.{ends_behind, not_bad, output_grows, output_stops, refused_behind, requests_append}
use Rattle.conn_talk.proofs.ItemLemmas.{plain_all}
use Rattle.conn_talk.proofs.RefusedLemmas.{are_refused}
use Rattle.conn_talk.proofs.TalksLemmas.{count_is, talks_part}
use Rattle.http_conn.specs.Messages.{AreFirstEvents, Messages, NothingAfterEnd, StaysOpen}
use Rattle.http_conn.specs.ParserStates.{Represents, rest_of}
use Rattle.http_conn.specs.declared.parser_state.ParserState.{ParserState}
use Rattle.http_conn.proofs.EndLemmas.{ended_rest, ends_there}
use Rattle.http_conn.proofs.LongerTexts.{events_stay_first}
use Rattle.http_conn.proofs.StepLemmas.{represents_messages}
use Rattle.pod_base.specs.declared.heard.Heard.{Heard}
use Rattle.pod_base.specs.declared.heard.Heard.TheVariants as heard
use Rattle.pod_core.specs.History.{History}
use Rattle.pod_core.specs.Output.{output_of}
use Rattle.pod_core.specs.Session.{IsRefused, IsWhole, Item, ends_upgraded, has_bad, requests_of}
use Rattle.pod_pipe.specs.Statuses.{HearsFirst}
use Rattle.pod_serve.specs.Served.{IsAllWritten, Items}
use Rattle.pod_serve.specs.Serving.{IsAnswered, IsEnded, requests_end_of}
use Rattle.pod_serve.specs.declared.requests_end.RequestsEnd.TheVariants as ends

-- the events of a prefix of a text come first in the whole
first_heard : (text more : List ℕ) (events : List Heard) (rest : ℕ) → Messages text events rest → HearsFirst (text ++ more) events
first_heard text more events rest m =
    let f : AreFirstEvents (text ++ more) events = record { prefix = text; is_prefix = (more, refl); all = events; rest = rest; messages = m; first = ([], append-nil events) } in
    record {
      front = f;
      whole = λ all left other.
          let first = events_stay_first (text ++ more) events all left f other in
          (first.0, sym first.1);
    }

-- each request has an item, and a malformed message was refused
pub is_whole : (events : List Heard) (items : Items) → length items.list ≡ length (requests_of events) → is_some items.refusal ≡ has_bad events → (history : History) (conn : ℕ) → IsWhole events (record { conn = conn; items = items.list; refusal = items.refusal; history = history })
is_whole events items count refuses history conn = inr (count, refuses)

pub has_items : (items : List Item) (events : List Heard) → map (λ (item : Item). item.request) items ≡ requests_of events → length items ≡ length (requests_of events)
has_items items events e = sym (length-map items (λ (item : Item). item.request)) ∙ ap length e

front_requests : (items : List Item) (front more : List Heard) → map (λ (item : Item). item.request) items ≡ requests_of front → IsPrefix (map (λ (item : Item). item.request) items) (requests_of (front ++ more))
front_requests items front more e = (requests_of more, ap (λ rs. rs ++ requests_of more) e ∙ sym (requests_append front more))

pub all_requests : (items : List Item) (events : List Heard) → map (λ (item : Item). item.request) items ≡ requests_of events → IsPrefix (map (λ (item : Item). item.request) items) (requests_of events)
all_requests items events e = ([], append-nil (map (λ (item : Item). item.request) items) ∙ e)

-- the first events of a text, where the others of it are known
hears_front : (text : List ℕ) (all front behind : List Heard) (rest : ℕ) → all ≡ front ++ behind → Messages text all rest → HearsFirst text front
hears_front text all front behind rest is m =
    let f : AreFirstEvents text front = record { prefix = text; is_prefix = ([], append-nil text); all = all; rest = rest; messages = m; first = (behind, sym is) } in
    record {
      front = f;
      whole = λ others left other.
          let first = events_stay_first text front others left f other in
          (first.0, sym first.1);
    }

-- no fewer requests come first in more events
behind_requests : (front more : List Heard) → length (requests_of (front ++ more)) ≡ length (requests_of front) + length (requests_of more)
behind_requests front more = ap length (requests_append front more) ∙ length-append (requests_of front) (requests_of more)

no_both : (b : Bool) → b ≡ true → b ≡ false → ⊥
no_both true e f = cc
no_both false e f = cc

-- a refusal comes of items none of which switched protocols
never_refused : (may_give : ℕ → Type 0) (refusal : Option ℕ) (front all : List Heard) (items : List Item) → ends_upgraded items ≡ true → IfSome refusal (IsRefused may_give front items) → IfSome refusal (IsRefused may_give all items)
never_refused may_give None front all items upgraded r = tt
never_refused may_give (Some moment) front all items upgraded r = absurd (no_both (ends_upgraded items) upgraded r.open_still)

module _ {A : Type 0} (rules : Rules A) (first : A) (stage : ParserState) (old : A) (number : ℕ) (text written : List ℕ) (s : IsAnswered rules first stage old number text written) where
  messages : Messages text s.events (rest_of stage)
  messages = represents_messages stage text s.events s.represents

  -- no memory was left to parse the piece
  pub unparsed : (piece : List ℕ) → IsEnded rules ends.NoMemory number first old (text ++ piece) (written ++ [])
  unparsed piece =
      let part = talks_part rules first old number s.events written s.trail s.talks in record {
        events = s.events;
        items = record { list = part.items; refusal = part.refusal };
        hears = λ left. first_heard text piece s.events (rest_of stage) messages;
        mid = old;
        are_items = part.are_items;
        left = refl;
        requests = part.requests;
        last = part.last;
        refused = part.refused;
        output = subst (λ w. IsPrefix w (output_of s.events part.items part.refusal)) (sym (append-nil written)) part.output;
        answered = part.answered;
      }

  module _ (piece : List ℕ) (those : List Heard) (rest : ℕ) (m : Messages (text ++ piece) (s.events ++ those) rest) where
    -- what the piece says ends where the connection does
    pub ends_so : NothingAfterEnd number those
    ends_so = subst (λ n. NothingAfterEnd n those) (count_is rules first old number s.events written s.trail s.talks) (ends_behind 0 s.events those s.talks.stays (ends_there (text ++ piece) (s.events ++ those) rest m))

    pub may_be_sent : AllByRecursion MayBeSent those
    may_be_sent = refused_behind s.events those (are_refused (text ++ piece) (s.events ++ those) rest m)

    -- all of it was answered
    pub goes_on : (next : ParserState) → Represents next (text ++ piece) (s.events ++ those) → (new : A) (number_now : ℕ) (out lines : List ℕ) → TurnsIn rules old number new number_now those out lines (Ok tt)
        → IsAnswered rules first next new number_now (text ++ piece) (written ++ out) × (number ≤ number_now)
    goes_on next represents new number_now out lines t =
        let whole : t.front ≡ those = sym (append-nil t.front) ∙ ap (λ b. t.front ++ b) (sym t.over) ∙ t.cut in
        let talks : Talks rules first new number_now (s.events ++ those) (written ++ out) (s.trail ++ lines) = subst (λ h. Talks rules first new number_now (s.events ++ h) (written ++ out) (s.trail ++ lines)) whole (t.turns first s.events written s.trail s.talks) in (
          record {
            events = s.events ++ those;
            trail = s.trail ++ lines;
            represents = represents;
            talks = talks;
          },
          omega (arith, count_is rules first old number s.events written s.trail s.talks, count_is rules first new number_now (s.events ++ those) (written ++ out) (s.trail ++ lines) talks, behind_requests s.events those),
        )

    -- the connection ended in it
    module _ (new : A) (number_now : ℕ) (out lines : List ℕ) (front behind : List Heard) (cut : front ++ behind ≡ those) where
      events_all : s.events ++ those ≡ (s.events ++ front) ++ behind
      events_all = ap (λ h. s.events ++ h) (sym cut) ∙ sym (append_assoc s.events front behind)

      none_behind : behind ≡ [] → s.events ++ front ≡ s.events ++ those
      none_behind none = sym (append-nil (s.events ++ front)) ∙ (ap (λ b. (s.events ++ front) ++ b) (sym none) ∙ sym events_all)

      messages_all : behind ≡ [] → Messages (text ++ piece) (s.events ++ front) rest
      messages_all none = subst (λ h. Messages (text ++ piece) h rest) (sym (none_behind none)) m

      messages_over : behind ≡ [] → (StaysOpen 0 (s.events ++ front) → ⊥) → Messages (text ++ piece) (s.events ++ front) 0
      messages_over none over =
          let there = messages_all none in
          subst (Messages (text ++ piece) (s.events ++ front)) (ended_rest (text ++ piece) (s.events ++ front) rest there over) there

      whole_answered : (upgraded : Bool) (e : EndsWhole rules upgraded first new (s.events ++ front) (written ++ out) (s.trail ++ lines)) → number ≤ length e.items
      whole_answered upgraded e = omega (arith, has_items e.items (s.events ++ front) e.requests, count_is rules first old number s.events written s.trail s.talks, behind_requests s.events front)

      -- all was answered and written
      whole_so : (upgraded : Bool) (e : EndsWhole rules upgraded first new (s.events ++ front) (written ++ out) (s.trail ++ lines))
          → IsAllWritten upgraded (s.events ++ front) (record { list = e.items; refusal = e.refusal }) (written ++ out)
      whole_so upgraded e = record {
        whole = is_whole (s.events ++ front) (record { list = e.items; refusal = e.refusal }) (has_items e.items (s.events ++ front) e.requests) e.refuses;
        last = e.upgraded_is;
        bytes = e.output;
      }

      pub ended_closed : behind ≡ [] → Ends rules Closed number first new (s.events ++ front) (written ++ out) (s.trail ++ lines) → IsEnded rules ends.Closed number first new (text ++ piece) (written ++ out)
      ended_closed none e = record {
        events = s.events ++ front;
        items = record { list = e.0.items; refusal = e.0.refusal };
        hears = λ left. (messages_over none e.1, (e.1, e.3), e.2);
        mid = new;
        are_items = e.0.are_items;
        left = refl;
        requests = all_requests e.0.items (s.events ++ front) e.0.requests;
        last = e.0.last;
        refused = e.0.refused;
        output = whole_so false e.0;
        answered = whole_answered false e.0;
      }

      pub ended_limit : behind ≡ [] → Ends rules Limit number first new (s.events ++ front) (written ++ out) (s.trail ++ lines) → IsEnded rules ends.LimitReached number first new (text ++ piece) (written ++ out)
      ended_limit none e = record {
        events = s.events ++ front;
        items = record { list = e.0.items; refusal = e.0.refusal };
        hears = λ left. (messages_over none e.1, (e.1, e.3), e.2);
        mid = new;
        are_items = e.0.are_items;
        left = refl;
        requests = all_requests e.0.items (s.events ++ front) e.0.requests;
        last = e.0.last;
        refused = e.0.refused;
        output = whole_so false e.0;
        answered = whole_answered false e.0;
      }

      pub ended_bad : (status : ℕ) → behind ≡ [] → Ends rules (Bad status) number first new (s.events ++ front) (written ++ out) (s.trail ++ lines) → IsEnded rules (ends.BadMessage status) number first new (text ++ piece) (written ++ out)
      ended_bad status none e = record {
        events = s.events ++ front;
        items = record { list = e.0.items; refusal = e.0.refusal };
        hears = λ left. (messages_over none (λ stays. not_bad 0 (s.events ++ front) status stays e.1), e.1);
        mid = new;
        are_items = e.0.are_items;
        left = refl;
        requests = all_requests e.0.items (s.events ++ front) e.0.requests;
        last = e.0.last;
        refused = e.0.refused;
        output = whole_so false e.0;
        answered = whole_answered false e.0;
      }

      -- nothing follows a switch of protocols, and nothing was refused
      pub ended_upgraded : Ends rules Upgraded number first new (s.events ++ front) (written ++ out) (s.trail ++ lines) → IsEnded rules ends.Upgraded number first new (text ++ piece) (written ++ out)
      ended_upgraded e =
          let items : Items = record { list = e.items; refusal = e.refusal } in record {
            events = s.events ++ those;
            items = items;
            hears = λ left. (rest, m);
            mid = new;
            are_items = e.are_items;
            left = refl;
            requests = subst (λ h. IsPrefix (map (λ (item : Item). item.request) e.items) (requests_of h)) (sym events_all) (front_requests e.items (s.events ++ front) behind e.requests);
            last = e.last;
            refused = never_refused rules.may_give e.refusal (s.events ++ front) (s.events ++ those) e.items e.upgraded_is e.refused;
            output = record {
              whole = λ history conn. inl e.upgraded_is;
              last = e.upgraded_is;
              bytes = e.output ∙ (sym (output_stops (s.events ++ front) behind e.items e.refusal e.upgraded_is (omega (arith, has_items e.items (s.events ++ front) e.requests))) ∙ ap (λ h. output_of h e.items e.refusal) (sym events_all));
            };
            answered = whole_answered true e;
          }

      -- a write failed
      pub ended_unwritten : EndsPart rules number first new (s.events ++ front) (written ++ out) (s.trail ++ lines) → IsEnded rules ends.LinkFault number first new (text ++ piece) (written ++ out)
      ended_unwritten e = record {
        events = s.events ++ front;
        items = record { list = e.items; refusal = e.refusal };
        hears = λ left. (s.events ++ those, rest, m, (behind, events_all));
        mid = new;
        are_items = e.are_items;
        left = inl refl;
        requests = e.requests;
        last = e.last;
        refused = e.refused;
        output = e.output;
        answered = e.answered;
      }

      -- out of memory for a refusal
      pub ended_starved : EndsPart rules number first new (s.events ++ front) (written ++ out) (s.trail ++ lines) → IsEnded rules ends.NoMemory number first new (text ++ piece) (written ++ out)
      ended_starved e = record {
        events = s.events ++ front;
        items = record { list = e.items; refusal = e.refusal };
        hears = λ left. hears_front (text ++ piece) (s.events ++ those) (s.events ++ front) behind rest events_all m;
        mid = new;
        are_items = e.are_items;
        left = refl;
        requests = e.requests;
        last = e.last;
        refused = e.refused;
        output = e.output;
        answered = e.answered;
      }

      -- a request found no place
      pub ended_unplaced : EndsUnplaced rules number first new (s.events ++ front) (written ++ out) (s.trail ++ lines) → IsEnded rules ends.NoPlace number first new (text ++ piece) (written ++ out)
      ended_unplaced e =
          let t = e.talks in
          let more = heard.Request e.request ∷ behind in
          let whole : e.front ++ more ≡ s.events ++ those = sym (append_assoc e.front (heard.Request e.request ∷ []) behind) ∙ (ap (λ h. h ++ behind) e.events_are ∙ sym events_all) in
          let count = has_items t.items e.front t.requests in
          let bytes : written ++ out ≡ output_of (s.events ++ those) t.items None = t.output ∙ (sym (append-nil (output_of e.front t.items None)) ∙ (sym (output_grows 0 e.front more t.items [] None t.stays t.plain count) ∙ (ap (λ xs. output_of (e.front ++ more) xs None) (append-nil t.items) ∙ ap (λ h. output_of h t.items None) whole))) in record {
            events = s.events ++ those;
            items = record { list = t.items; refusal = None };
            hears = λ left. (rest, m);
            mid = e.mid;
            are_items = t.are_items;
            left = (
              e.request,
              e.passed,
              λ no_change. record {
                front = e.front;
                request = e.request;
                rest = behind;
                events_are = whole;
                count = count;
                no_change = no_change;
                refusal = refl;
                bytes = bytes;
              },
            );
            requests = subst (λ h. IsPrefix (map (λ (item : Item). item.request) t.items) (requests_of h)) whole (front_requests t.items e.front more t.requests);
            last = plain_all t.items t.plain;
            refused = tt;
            output = bytes;
            answered = omega (arith, e.answered, t.number_is);
          }

    pub ended : (new : A) (number_now : ℕ) (end : TalkEnd) (out lines : List ℕ) → TurnsIn rules old number new number_now those out lines (Err end) → IsEnded rules (requests_end_of end) number first new (text ++ piece) (written ++ out)
    ended new number_now Closed out lines t = ended_closed new number_now out lines t.front t.rest t.cut t.over (t.turns first s.events written s.trail s.talks)
    ended new number_now Limit out lines t = ended_limit new number_now out lines t.front t.rest t.cut t.over (t.turns first s.events written s.trail s.talks)
    ended new number_now Upgraded out lines t = ended_upgraded new number_now out lines t.front t.rest t.cut (t.turns first s.events written s.trail s.talks)
    ended new number_now (Bad status) out lines t = ended_bad new number_now out lines t.front t.rest t.cut status t.over (t.turns first s.events written s.trail s.talks)
    ended new number_now WriteFault out lines t = ended_unwritten new number_now out lines t.front t.rest t.cut (t.turns first s.events written s.trail s.talks)
    ended new number_now NoMemory out lines t = ended_starved new number_now out lines t.front t.rest t.cut (t.turns first s.events written s.trail s.talks)
    ended new number_now NoPlace out lines t = ended_unplaced new number_now out lines t.front t.rest t.cut (t.turns first s.events written s.trail s.talks)
