-- Looks: what is next is answered at a place.
use Rattle.std.proofs.Common.{◌≡◌, ◌⊎◌, inl, inr, ℕ, suc, ◌+◌, ◌≤◌, ◌==◌, Bool, true, false, ◌++◌, ◌∷◌, [], Option, Some, None, slice_get, refl, sym, ap, subst, ◌∙◌, arith}
use Rattle.std.proofs.lemmas.Option.{slice_get_within}
use Rattle.http_out.specs.Text.{response_text}
use Rattle.http_out.specs.Calendar.{date_text}
use Rattle.pod_base.specs.declared.heard.Heard.{Heard}
use Rattle.pod_base.specs.declared.heard.Heard.TheVariants as heard
use Rattle.pod_base.specs.declared.moment.Stamp.{Stamp}
use Rattle.pod_base.specs.declared.request.Request.{Request}
use Rattle.pod_core.specs.History.{History, IsPlace}
use Rattle.pod_core.specs.Output.{closes_after, refusal_text}
use Rattle.pod_core.specs.Session.{IsClockMoment, Item, answered}
use Rattle.pod_core.specs.World as world
use Rattle.pod_core.specs.World.{AnswersRead, Connection, IsNextEvent, RefusesMessage, holder_in, next_stamp, request_number, with_answer}
use Rattle.pod_reply.specs.Replies.{Reply}
use Rattle.pod_reply.specs.Reply.{IsReply}
use Rattle.reply_laws.specs.Granted.{is_change}
use Rattle.token_table.specs.Credentials.{AskedAgent}
use Rattle.request_history.proofs.Holding.{holds_if_any}
use Rattle.request_history.proofs.Numbered.{get_all}
use Rattle.request_history.proofs.Settled.{settled_rests, settled_seen}
use Rattle.request_history.proofs.Steps.{looks}
use Rattle.request_history.specs.Connections.{HasNext, SettlesTo}
use Rattle.request_history.specs.Parts.{HasSeen, IsWorld, Replaces}
use Rattle.request_history.specs.Reads.{Answers, IsAnswerAt, IsReadAnswer, IsNoChange, after_answer}
use Rattle.request_history.specs.Worlds.{HasNoStep, any_second, asking_of}
use Rattle.request_history.specs.declared.answer_bytes.Answer.{Answer}
use Rattle.request_history.specs.declared.parts_and_events.Parts.{Parts}

-- ---- the answer to what is next

-- the next event is this one, and no other
abbrev pub IsOnly : Connection → Heard → Type 0
IsOnly from event = (other : Heard) → IsNextEvent from other → other ≡ event

pub only_next : (from : Connection) (event : Heard) → HasNext from (Some event) → IsOnly from event
only_next from event h other n = let e = h.only other n in cc e

module _ (asking : Request → AskedAgent) (history : History) (conn place moment : ℕ) (from : Connection) where
  pub look_read : (request : Request) (stamp : Stamp) (answer : Answer) → stamp ≡ next_stamp conn from moment → IsAnswerAt asking history request place stamp answer
      → IsNextEvent from (heard.Request request) → IsOnly from (heard.Request request) → is_change request.method ≡ false → IsReadAnswer asking history conn place moment from answer
  look_read request stamp answer is a next only none =
      let b : IsAnswerAt asking history request place (next_stamp conn from moment) answer = subst (λ (s : Stamp). IsAnswerAt asking history request place s answer) is a in
      record {
        event = heard.Request request;
        next = next;
        only = only;
        changes_nothing = none;
        answers = inl (record {
          request = request;
          next = next;
          changes_nothing = none;
          reply = b.reply;
          is_reply = b.is_reply;
          new_is = λ i. record {
            input = from.input;
            output = from.output ++ b.text i;
            done = from.done ++ heard.Request request ∷ [];
            switched = b.switched i;
            seen = place;
          };
        });
      }

  pub look_refused : (status : ℕ) (answer : Answer) → answer.text ≡ refusal_text status (Some moment) → answer.switched ≡ false
      → IsNextEvent from (heard.Bad status) → IsOnly from (heard.Bad status) → IsReadAnswer asking history conn place moment from answer
  look_refused status answer text switched next only = record {
    event = heard.Bad status;
    next = next;
    only = only;
    changes_nothing = tt;
    answers = inr (record {
      status = status;
      next = next;
      new_is = λ i. record {
        input = from.input;
        output = from.output ++ text i;
        done = from.done ++ heard.Bad status ∷ [];
        switched = (switched ∙ sym next.not_switched) i;
        seen = place;
      };
    });
  }

  -- there is none to a change, or where nothing else is next
  pub look_change : (request : Request) → IsOnly from (heard.Request request) → is_change request.method ≡ true → (to : Connection) → Answers asking history conn place moment from to → ⊥
  look_change request only changes to (inl a) =
      let e = only (heard.Request a.request) a.next in
      let same : a.request ≡ request = cc e in
      absurd (cc (sym (ap (λ (r : Request). is_change r.method) same) ∙ a.changes_nothing, changes))
  look_change request only changes to (inr r) = absurd (cc (only (heard.Bad r.status) r.next))

  pub look_interim : IsOnly from heard.Interim → (to : Connection) → Answers asking history conn place moment from to → ⊥
  look_interim only to (inl a) = absurd (cc (only (heard.Request a.request) a.next))
  look_interim only to (inr r) = absurd (cc (only (heard.Bad r.status) r.next))

  pub look_none : HasNext from None → (to : Connection) → Answers asking history conn place moment from to → ⊥
  look_none h to (inl a) = absurd (cc (h.only (heard.Request a.request) a.next))
  look_none h to (inr r) = absurd (cc (h.only (heard.Bad r.status) r.next))

-- ---- the world

module _ (parts : Parts) (conn place moment : ℕ) (from : Connection) (is : slice_get parts.connections.items conn ≡ Some from) where
  pub look_replaces : (answer : Answer) (new : Connection) → IsWorld parts → parts.stopped ≡ false → from.seen ≤ place → place ≤ parts.published → IsClockMoment any_second moment
      → IsReadAnswer (asking_of parts.tokens) parts.keeper.history (suc conn) place moment from answer
      → ((event : Heard) → IsNextEvent from event → SettlesTo (after_answer from event answer place) new)
      → Replaces parts (world.look (suc conn) place moment) conn new
  look_replaces answer new fine runs seen shown clock k settled =
      let all = parts.connections.items in
      let start = parts.keeper.history.start in
      let to = after_answer from k.event answer place in
      let fits : SettlesTo to new = settled k.event k.next in
      let at : new.seen ≡ place = settled_seen to new fits in
      let begun : start ≤ from.seen = get_all (HasSeen start) all conn from fine.seen is in
      record {
        within = slice_get_within all conn from is;
        seen = omega (arith, at, begun, seen);
        rests = settled_rests to new fits;
        holds = holds_if_any all conn from new is
            (λ request changes next.
            let e : heard.Request request ≡ k.event = k.only (heard.Request request) next in
            let none : IsNoChange (heard.Request request) = subst IsNoChange (sym e) k.changes_nothing in
            absurd (cc (changes, none)))
            (holder_in parts.keeper.phase) fine.holds;
        steps = looks (asking_of parts.tokens) parts.keeper parts.published all parts.stopped runs fine.rests conn place moment from to new is seen shown clock k.answers fits;
      }

  pub never_looks : (from.seen ≤ place → place ≤ parts.published → IsClockMoment any_second moment → (to : Connection) → Answers (asking_of parts.tokens) parts.keeper.history (suc conn) place moment from to → ⊥)
      → HasNoStep parts (world.look (suc conn) place moment)
  never_looks h new step =
      let d = step.does in
      let both : Some d.from ≡ Some from = sym d.is_there ∙ is in
      let that : d.from ≡ from = cc both in
      h (subst (λ (c : Connection). c.seen ≤ place) that d.seen) d.published d.clock d.to
      (subst (λ (c : Connection). Answers (asking_of parts.tokens) parts.keeper.history (suc conn) place moment c d.to) that d.answers)

pub no_connection_looks : (parts : Parts) (conn place moment : ℕ) → slice_get parts.connections.items conn ≡ None → HasNoStep parts (world.look (suc conn) place moment)
no_connection_looks parts conn place moment none new step = let d = step.does in absurd (cc (sym none ∙ d.is_there))

pub place_is : (parts : Parts) (conn place : ℕ) (from : Connection) → IsWorld parts → slice_get parts.connections.items conn ≡ Some from → from.seen ≤ place → place ≤ parts.published → IsPlace parts.keeper.history place
place_is parts conn place from fine is seen shown =
    let start = parts.keeper.history.start in
    let begun : start ≤ from.seen = get_all (HasSeen start) parts.connections.items conn from fine.seen is in
    record { from = omega (arith, begun, seen); to = omega (arith, shown, fine.published) }
