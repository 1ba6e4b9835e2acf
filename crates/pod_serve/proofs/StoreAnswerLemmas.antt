-- What one request does to a session, and what all items of a connection do.
use Rattle.std.proofs.Common.{◌≡◌, ℕ, ◌+◌, true, false, if◌then◌else◌, max, List, [], ◌∷◌, ◌++◌, length, IfSome, Option, Some, None, Result, Ok, Err, refl, sym, ap, subst, ◌∙◌, arith}
use Rattle.std.specs.Option.{option_to_list}
use Rattle.std.proofs.lemmas.List.{append-nil}
use mathlib.Core.List.{IsPrefix}
use Rattle.pod_base.proofs.Prefixes.{prefix_self}
use Rattle.conn_talk.specs.Talks.{Chain, Ticks}
use Rattle.conn_talk.specs.Turns.{CameTo, IsAnswerOf, IsItemOf, Rules}
use Rattle.pod_core.specs.declared.request_answer.Answer.{Answer}
use Rattle.conn_talk.specs.declared.answers.AnswerFault.{AnswerFault}
use Rattle.conn_talk.specs.declared.answers.AnswerFault.TheVariants.{NoMemory, DiskFault, NoPlace}
use Rattle.pod_base.specs.declared.moment.Moment.{Moment}
use Rattle.pod_base.specs.declared.moment.Stamp.{Stamp}
use Rattle.pod_base.specs.declared.request.Request.{Request}
use Rattle.pod_base.specs.declared.response.Response.{Response}
use Rattle.pod_command.specs.declared.entry.Entry.{Entry}
use Rattle.pod_core.specs.History.{History, end_of, longer, moment_before, pod_at}
use Rattle.pod_core.specs.Session.{Item, answered, disk_fault, ends_upgraded, no_memory}
use Rattle.pod_path.specs.Norm.{norm}
use Rattle.published_view.specs.LookerState.{NotNoPlace}
use Rattle.published_view.specs.declared.fault.ViewFault.{ViewFault}
use Rattle.published_view.specs.declared.fault.ViewFault.TheVariants as views
use Rattle.pod_live.specs.Visits.{Changed, FaultedAt, IsFaulted, Looked, ReadAt, Visit}
use Rattle.pod_reply.specs.Reply.{IsReply, agent_of}
use Rattle.request_target.specs.Targets.{origin_form}
use Rattle.reply_laws.specs.Granted.{is_change}
use Rattle.token_table.specs.Credentials.{AskedAgent}
use Rattle.pod_serve.specs.Serving.{FoundNoPlace, SeatPasses, SeatTurns, SessionTurn, SessionWalk}
use Rattle.pod_serve.specs.Upgrades.{IsAbout, IsUpgradeTo, Notes, NotesAnswer, last_item}
use Rattle.pod_serve.specs.declared.upgrade.Upgrade.{Upgrade}

none_more : (xs : List Entry) (o : Option Entry) → o ≡ None → IsPrefix (xs ++ option_to_list o) xs
none_more xs o none = ([], append-nil (xs ++ option_to_list o) ∙ (ap (λ p. xs ++ option_to_list p) none ∙ append-nil xs))

none_added : (o : Option Entry) → o ≡ None → length (option_to_list o) ≡ 0
none_added o none = ap (λ p. length (option_to_list p)) none

module _ (kept : History → Type 0) (first : ℕ) (request : Request) (asked : AskedAgent) (stamp : Stamp) (old new : Visit) where
  abbrev Came : Result Answer AnswerFault → Type 0
  Came result = CameTo (λ item. SessionTurn kept first stamp.conn stamp.moment.0 old item new) (FoundNoPlace request old new) request asked stamp result

  -- a read was answered
  pub read_answered : (response : Response) (place : ℕ) (moment : Moment) → is_change request.method ≡ false → ReadAt kept new.seen request asked stamp response → place ≡ first + length new.seen → moment ≡ stamp.moment → Looked old new
      → Came (Ok (record { response = response; place = place; moment = moment }))
  read_answered response place moment steady read at is looked = (
    record { request = request; number = stamp.number; asked = asked; moment = stamp.moment.0; outcome = answered place read.reply },
    record { request_is = refl; number_is = refl; asked_is = refl },
    record { reply = read.reply; outcome_is = refl; response_is = read.response_is; moment_is = ap (λ (m : Moment). m.0) is },
    record {
      turn = record {
        entries = new.seen;
        seen_before = looked.later;
        replies = λ h k. record {
          reply_is = read.replies h k;
          moment = sym (ap (λ b. if b then max stamp.moment.0 (moment_before (longer h new.seen) (end_of (longer h new.seen))) else stamp.moment.0) steady);
        };
        place_is = at;
        seen_after = none_more new.seen read.reply.entry read.no_entry;
      };
      looks = looked.looks;
      changes = omega (arith, looked.changes, none_added read.reply.entry read.no_entry);
      faults = omega (arith, looked.faults);
      refused = omega (arith, looked.refused);
    },
  )

  -- a read found no memory, after its look
  pub read_starved : is_change request.method ≡ false → Looked old new → Came (Err NoMemory)
  read_starved steady looked = (
    record { request = request; number = stamp.number; asked = asked; moment = stamp.moment.0; outcome = no_memory },
    record { request_is = refl; number_is = refl; asked_is = refl },
    refl,
    record {
      turn = looked.later;
      looks = looked.looks ∙ ap (λ b. old.looks + (if b then 0 else 1)) (sym steady);
      changes = omega (arith, looked.changes);
      faults = omega (arith, looked.faults);
      refused = omega (arith, looked.refused);
    },
  )

  -- a change was answered
  pub change_answered : (response : Response) (place : ℕ) (moment : Moment) → is_change request.method ≡ true → Changed kept first old request asked stamp response place moment.0 new
      → Came (Ok (record { response = response; place = place; moment = moment }))
  change_answered response place moment changing change = (
    record { request = request; number = stamp.number; asked = asked; moment = moment.0; outcome = answered place change.reply },
    record { request_is = refl; number_is = refl; asked_is = refl },
    record { reply = change.reply; outcome_is = refl; response_is = change.response_is; moment_is = refl },
    record {
      turn = record {
        entries = change.entries;
        seen_before = change.after_seen;
        replies = λ h k. record {
          reply_is = subst (λ (m : ℕ). IsReply (pod_at (longer h change.entries) (end_of (longer h change.entries))) request asked (end_of (longer h change.entries)) (record stamp { moment = record { 0 = m } }) change.reply) (sym (change.moment_is h k)) (change.replies h k);
          moment = change.moment_is h k ∙ sym (ap (λ b. if b then max stamp.moment.0 (moment_before (longer h change.entries) (end_of (longer h change.entries))) else stamp.moment.0) changing);
        };
        place_is = change.place_is;
        seen_after = change.then_seen;
      };
      looks = change.looks;
      changes = change.growth;
      faults = omega (arith, change.faults);
      refused = change.refused;
    },
  )

  -- a change found no memory, and nothing changed
  pub change_starved : is_change request.method ≡ true → new ≡ old → Came (Err NoMemory)
  change_starved changing same = (
    record { request = request; number = stamp.number; asked = asked; moment = stamp.moment.0; outcome = no_memory },
    record { request_is = refl; number_is = refl; asked_is = refl },
    refl,
    record {
      turn = subst (λ (xs : List Entry). IsPrefix old.seen xs) (sym (ap (λ (v : Visit). v.seen) same)) (prefix_self old.seen);
      looks = ap (λ (v : Visit). v.looks) same ∙ (omega arith ∙ ap (λ b. old.looks + (if b then 0 else 1)) (sym changing));
      changes = omega (arith, ap (λ (v : Visit). v.changes) same);
      faults = omega (arith, ap (λ (v : Visit). v.faults) same);
      refused = omega (arith, ap (λ (v : Visit). v.refused) same);
    },
  )

  -- a change met a disk fault, which was counted on the session
  pub change_faulted : is_change request.method ≡ true → IsFaulted old new → FaultedAt kept old.seen request asked stamp → Came (Err DiskFault)
  change_faulted changing fault at = (
    record { request = request; number = stamp.number; asked = asked; moment = stamp.moment.0; outcome = disk_fault },
    record { request_is = refl; number_is = refl; asked_is = refl },
    refl,
    record {
      turn = record {
        changes = changing;
        entries = at.entries;
        seen_before = at.after_seen;
        reply = at.reply;
        entry = at.entry;
        replies = at.replies;
        entry_is = at.entry_is;
        seen_after = subst (λ (xs : List Entry). IsPrefix old.seen xs) (sym (ap (λ (v : Visit). v.seen) fault)) (prefix_self old.seen);
      };
      looks = ap (λ (v : Visit). v.looks) fault ∙ (omega arith ∙ ap (λ b. old.looks + (if b then 0 else 1)) (sym changing));
      changes = omega (arith, ap (λ (v : Visit). v.changes) fault);
      faults = ap (λ (v : Visit). v.faults) fault;
      refused = omega (arith, ap (λ (v : Visit). v.refused) fault);
    },
  )

-- a look that found no memory was made
pub look_made : (X : Type 0) (fault : ViewFault) (old new : Visit) → fault ≡ views.NoMemory → NotNoPlace {X = X} (Err fault) (Looked old new) → Looked old new
look_made X views.NoMemory old new is looked = looked
look_made X views.NoPlace old new is looked = absurd cc

-- what is noted of an answer is what its item is about
answer_notes : (base : List ℕ) (request : Request) (asked : AskedAgent) (stamp : Stamp) (answer : Answer) (noted : Option Upgrade) → IfSome noted (NotesAnswer base request asked (Ok answer)) → (item : Item) → IsItemOf request asked stamp item → IsAnswerOf item answer → Notes base item noted
answer_notes base request asked stamp answer noted h item of answers = λ u is.
    let told : IsUpgradeTo base request asked answer.place u = subst (λ (o : Option Upgrade). IfSome o (NotesAnswer base request asked (Ok answer))) is h in
    record {
      path = subst (λ (r : Request). norm (origin_form base r.target) ≡ Ok u.topic) (sym of.request_is) told.path;
      agent_is = told.agent_is ∙ ap agent_of (sym of.asked_is);
      reply = answers.reply;
      answer = answers.outcome_is ∙ ap (λ (p : ℕ). answered p answers.reply) (sym told.place_is);
    }

fault_notes : (base : List ℕ) (request : Request) (asked : AskedAgent) (fault : AnswerFault) (noted : Option Upgrade) → IfSome noted (NotesAnswer base request asked (Err fault)) → (item : Item) → Notes base item noted
fault_notes base request asked fault noted h item = λ u is. absurd (subst (λ (o : Option Upgrade). IfSome o (NotesAnswer base request asked (Err fault))) is h)

-- what came of a request, with what is noted of its answer
pub came_noted : (P Q : Item → Type 0) (R S : Type 0) (base : List ℕ) (request : Request) (asked : AskedAgent) (stamp : Stamp) (result : Result Answer AnswerFault) (noted : Option Upgrade) → IfSome noted (NotesAnswer base request asked result) → ((item : Item) → P item → Notes base item noted → Q item) → (R → S)
    → CameTo P R request asked stamp result → CameTo Q S request asked stamp result
came_noted P Q R S base request asked stamp (Ok answer) noted h f g c = (c.0, c.1, c.2, f c.0 c.3 (answer_notes base request asked stamp answer noted h c.0 c.1 c.2))
came_noted P Q R S base request asked stamp (Err NoMemory) noted h f g c = (c.0, c.1, c.2, f c.0 c.3 (fault_notes base request asked NoMemory noted h c.0))
came_noted P Q R S base request asked stamp (Err DiskFault) noted h f g c = (c.0, c.1, c.2, f c.0 c.3 (fault_notes base request asked DiskFault noted h c.0))
came_noted P Q R S base request asked stamp (Err NoPlace) noted h f g c = g c

-- ---- the items of a connection

module _ {A X Y : Type 0} (name : A → X) (mark : A → Y) (visit : A → Visit) (noted : A → Option Upgrade) (base : List ℕ) (kept : History → Type 0) (first conn : ℕ) (may_give : ℕ → Type 0) (asking : Request → AskedAgent) where
  abbrev seat_rules : Rules A
  seat_rules = record { conn = conn; may_give = may_give; asking = asking; trails = false; turns = SeatTurns name mark visit noted base kept first; passes = SeatPasses name mark visit noted base kept first }

  -- what is noted after items, the last of which switched protocols, is what that one is about
  pub chain_notes : (items : List Item) (old new : A) → Chain seat_rules old items new → ends_upgraded items ≡ true → (u : Upgrade) → noted new ≡ Some u → (item : Item) × (last_item items ≡ Some item) × IsAbout base item u.topic u.agent u.last
  chain_notes [] old new c ends u is = absurd (cc ends)
  chain_notes (item ∷ []) old new c ends u is =
      let tick : Ticks seat_rules old item c.0 = c.1 in (item, refl, tick.2.3 u (ap noted (sym c.2) ∙ is))
  chain_notes (item ∷ other ∷ others) old new c ends u is = chain_notes (other ∷ others) c.0 new c.2 ends u is

  pub chain_walks : (items : List Item) (old new : A) → Chain seat_rules old items new → (name old ≡ name new) × (mark old ≡ mark new) × SessionWalk kept first conn may_give (visit old) items (visit new)
  chain_walks [] old new is = (
    ap name (sym is),
    ap mark (sym is),
    record {
      walk = subst (λ (a : A). IsPrefix (visit old).seen (visit a).seen) (sym is) (prefix_self (visit old).seen);
      looks = ap (λ (a : A). (visit a).looks) is ∙ omega arith;
      changes = ap (λ (a : A). (visit a).changes) is ∙ omega arith;
      faults = ap (λ (a : A). (visit a).faults) is ∙ omega arith;
      refused = omega (arith, ap (λ (a : A). (visit a).refused) is);
    },
  )
  chain_walks (item ∷ items) old new c =
      let rest = chain_walks items c.0 new c.2 in
      let tick : Ticks seat_rules old item c.0 = c.1 in
      let turn = tick.2.2 in (
        tick.2.0 ∙ rest.0,
        tick.2.1 ∙ rest.1,
        record {
          walk = ((visit c.0).seen, (tick.0, tick.1, turn.turn), rest.2.walk);
          looks = omega (arith, turn.looks, rest.2.looks);
          changes = omega (arith, turn.changes, rest.2.changes);
          faults = omega (arith, turn.faults, rest.2.faults);
          refused = omega (arith, turn.refused, rest.2.refused);
        },
      )
