-- What an entry, or a disk fault, leaves of what a store's lock protects, and what a plan is there.
use Rattle.std.proofs.Common.{◌≡◌, ◌⊎◌, inl, inr, ◌≤◌, ◌+◌, ℕ, IsTrue, IsSome, Option, Some, None, List, refl, [], ◌∷◌, ◌++◌, length, ap, arith, append_assoc, length-append, subst, sym, ◌∙◌}
use Rattle.std.proofs.lemmas.List.{append-nil}
use mathlib.Core.List.{IsPrefix}
use Rattle.journal_pair.specs.Doubts.{IsSure, IsLong}
use Rattle.pod_base.specs.Counts.{CountIncreased}
use Rattle.pod_base.specs.declared.moment.Moment.{Moment}
use Rattle.pod_base.specs.declared.moment.Stamp.{Stamp}
use Rattle.pod_base.specs.declared.request.Request.{Request}
use Rattle.pod_command.specs.declared.entry.Entry.{Entry}
use Rattle.pod_core.specs.History.{History, longer}
use Rattle.pod_keeper.specs.Commits.{IsGrown, IsLeftFaulted}
use Rattle.pod_keeper.specs.Kept.{Doubt, certain, IsKept, StandsForSome}
use Rattle.pod_keeper.specs.KeeperState.{KeeperState, version_in, IsCheckpointDue}
use Rattle.pod_keeper.specs.Plans.{IsPlan, planned_entry}
use Rattle.pod_keeper.specs.declared.plan.Plan.{Plan}
use Rattle.pod_keeper.proofs.HistoryLaws.{states_after_append, states_next}
use Rattle.pod_live.proofs.EventLemmas.{is_change_of, is_fault_of}
use Rattle.pod_live.specs.Locks.{LockState, IsBooked, IsPlannedHere}
use Rattle.pod_live.specs.Stores.{KeptSome, IsSafe, Covers}
use Rattle.pod_live.specs.Visits.{FaultedAt, RepliesAtEnd}
use Rattle.pod_pages.specs.State.{VersionState, state_after, states_after}
use Rattle.reply_laws.specs.Granted.{is_change}
use Rattle.token_table.specs.Credentials.{AskedAgent}

-- the version after one entry more
pub stands_next : (opened v w : VersionState) (list : List Entry) (e : Entry) → v ≡ states_after opened list → w ≡ state_after v e → w ≡ states_after opened (list ++ e ∷ [])
stands_next opened v w list e is next = next ∙ (ap (λ (u : VersionState). state_after u e) is ∙ sym (states_after_append opened list (e ∷ [])))

covers_more : (counted booked f f_new s s_new : ℕ) → Covers counted booked f s → f ≤ f_new → s ≤ s_new → CountIncreased f f_new ⊎ CountIncreased s s_new → Covers counted (booked + 1) f_new s_new
covers_more counted booked f f_new s s_new covers p q (inl rose) = λ a b. let more = rose a in omega (arith, more, q, covers (omega (arith, p, a)) (omega (arith, q, b)))
covers_more counted booked f f_new s s_new covers p q (inr rose) = λ a b. let more = rose b in omega (arith, more, p, covers (omega (arith, p, a)) (omega (arith, q, b)))

module _ {D : Type 0} (image : D → List ℕ → Type 0) (count : D → ℕ) (kept : History → Type 0) (safe : Type 0) (opened : VersionState) (opening : List Entry) (counted : ℕ) where
  module _ (old new : KeeperState D) (list : List Entry) (changes booked : ℕ) (was : IsBooked image count kept safe opened opening counted (record { keeper = old; list = list; changes = changes; faults = booked }))
      (some : StandsForSome image new)
      (sure : IsSure image old.first old.second old.pair → (IsCheckpointDue old.pair → IsLong image old.first old.second old.pair) → IsSure image new.first new.second new.pair)
      (long : IsSure image old.first old.second old.pair → IsLong image old.first old.second old.pair → IsLong image new.first new.second new.pair)
      (first : count old.first ≤ count new.first) (second : count old.second ≤ count new.second) where
    pub booked_grown : (e : Entry) → ((h : History) (place : ℕ) (doubt : Doubt) → IsKept image old h place doubt → IsGrown image old new h place e) → version_in new ≡ state_after (version_in old) e
        → IsBooked image count kept safe opened opening counted (record { keeper = new; list = list ++ e ∷ []; changes = changes + 1; faults = booked })
    booked_grown e grows after = record {
      stands = λ h k.
          let s = was.stands h k in
          let grown = grows (longer h list) s.0 s.1 s.2 in
          (grown.new_place, certain, subst (λ (entries : List Entry). IsKept image new (record h { entries = entries }) grown.new_place certain) (append_assoc h.entries list (e ∷ [])) grown.kept);
      some = some;
      still_safe = λ s. let w = was.still_safe s in record { sure = sure w.sure (λ due. w.long); long = long w.sure w.long };
      version = stands_next opened (version_in old) (version_in new) list e was.version after;
      grown = omega (arith, length-append list (e ∷ []), was.grown);
      covers = λ a b. omega (arith, first, second, was.covers (omega (arith, first, a)) (omega (arith, second, b)));
    }

    pub booked_faulted : (e : Entry) → ((h : History) (place : ℕ) (doubt : Doubt) → IsKept image old h place doubt → IsLeftFaulted image new h place doubt e) → version_in new ≡ version_in old
        → CountIncreased (count old.first) (count new.first) ⊎ CountIncreased (count old.second) (count new.second)
        → IsBooked image count kept safe opened opening counted (record { keeper = new; list = list; changes = changes; faults = booked + 1 })
    booked_faulted e stays same rose = record {
      stands = λ h k.
          let s = was.stands h k in
          let left = stays (longer h list) s.0 s.1 s.2 in
          (left.new_place, left.left, left.kept);
      some = some;
      still_safe = λ s. let w = was.still_safe s in record { sure = sure w.sure (λ due. w.long); long = long w.sure w.long };
      version = same ∙ was.version;
      grown = was.grown;
      covers = covers_more counted booked (count old.first) (count new.first) (count old.second) (count new.second) was.covers first second rose;
    }

  -- of a store that was just opened
  pub booked_opened : (keeper : KeeperState D) → version_in keeper ≡ opened → ((h : History) → kept h → KeptSome image keeper h) → StandsForSome image keeper → (safe → IsSafe image keeper)
      → counted ≡ count keeper.first + count keeper.second → opening ≡ [] → IsBooked image count kept safe opened opening counted (record { keeper = keeper; list = []; changes = 0; faults = 0 })
  booked_opened keeper is stands some still_safe counted_is none =
      let empty : length opening ≡ 0 = ap length none in
      record {
        stands = λ h k. let s = stands h k in (s.0, s.1, subst (λ (entries : List Entry). IsKept image keeper (record h { entries = entries }) s.0 s.1) (sym (append-nil h.entries)) s.2);
        some = some;
        still_safe = still_safe;
        version = is;
        grown = omega (arith, empty);
        covers = λ a b. omega (arith, counted_is);
      }

  pub planned_here : (state : LockState D) → IsBooked image count kept safe opened opening counted state → (request : Request) (asked : AskedAgent) (stamp : Stamp) (plan : Plan) → IsTrue (is_change request.method)
      → IsPlan image state.keeper request asked stamp plan → IsPlannedHere image kept opened.next state.list state.keeper request asked stamp plan
  planned_here state booked request asked stamp plan changes is =
      let replies : RepliesAtEnd kept state.list request asked stamp is.reply = λ h k. let s = booked.stands h k in is.at_end (longer h state.list) s.0 s.1 s.2 in
      record {
        reply = is.reply;
        replies = replies;
        events = is_change_of kept state.list request asked stamp is.reply changes replies;
        response_is = is.response_is;
        place_is = is.place_is ∙ (ap (λ (v : VersionState). v.next) booked.version ∙ states_next opened state.list);
        moment_is = λ h k. let s = booked.stands h k in ap (λ (m : Moment). m.0) (is.moment_at_end (longer h state.list) s.0 s.1 s.2);
        entry_is = is.entry_is;
        plans = record { reply = is.reply; entry_is = is.entry_is; at_end = is.at_end };
        planned = is.planned;
        sent = is.sent;
        status = is.status;
      }

some_of : {A : Type 0} (o : Option A) → IsSome o → (x : A) × (o ≡ Some x)
some_of None is = absurd (cc is)
some_of (Some x) is = (x, refl)

-- a change that met a disk fault
pub faulted_at : {D : Type 0} (image : D → List ℕ → Type 0) (kept : History → Type 0) (first : ℕ) (list seen : List Entry) (keeper : KeeperState D) (request : Request) (asked : AskedAgent) (stamp : Stamp) (plan : Plan)
    → IsPlannedHere image kept first list keeper request asked stamp plan → IsPrefix seen list → IsTrue (is_change request.method) → IsSome (planned_entry plan.next) → FaultedAt kept seen request asked stamp
faulted_at image kept first list seen keeper request asked stamp plan is after changes had =
    let one = some_of is.reply.entry (subst (λ (o : Option Entry). IsSome o) is.entry_is had) in
    record {
      entries = list;
      reply = is.reply;
      after_seen = after;
      replies = is.replies;
      entry = one.0;
      entry_is = one.1;
      events = is_fault_of kept list request asked stamp is.reply one.0 one.1 changes is.replies;
    }
