-- The commit of an entry, from what was prepared and what was written.
use Rattle.std.proofs.Common.{◌≡◌, ◌⊎◌, ℕ, ◌+◌, List, [], ◌∷◌, ◌++◌, Option, Some, None, IfSome, Result, Ok, Err, refl, ap, subst}
use Rattle.std.specs.Prelude.{IsSome}
use Rattle.std.specs.Arc.{arc_value}
use Rattle.journal_log.specs.declared.fault.DiskFault.{DiskFault}
use Rattle.journal_pair.specs.PairState.{PairState}
use Rattle.journal_pair.specs.Doubts.{IsSure, IsLong, HasRecords, RecordDoubt}
use Rattle.journal_pair.specs.Together.{LeavesTogether}
use Rattle.journal_pair.specs.Writes.{Writes}
use Rattle.journal_pair.specs.PairMoments.{ThroughOpenings}
use Rattle.pod_base.specs.Counts.{CountIncreased}
use Rattle.pod_command.specs.Bare.{bare_entry}
use Rattle.stored_forms.specs.Storable.{IsStorable}
use Rattle.stored_forms.specs.StoredForms.{entry_bytes, origin_bytes, request_bytes}
use Rattle.pod_command.specs.declared.entry.Entry.{Entry}
use Rattle.pod_core.specs.History.{History, longer}
use Rattle.pod_keeper.specs.Commits.{IsGrown, IsLeftFaulted, LeavesPodsOf}
use Rattle.pod_keeper.specs.CrashedPods.{StandsForOneOf}
use Rattle.pod_keeper.specs.Kept.{Doubt, certain, entries_in, IsKept, StandsForSome}
use Rattle.pod_keeper.specs.KeeperState.{KeeperState, version_in, IsCheckpointDue}
use Rattle.pod_keeper.specs.Plans.{IsPlannedAt}
use Rattle.pod_keeper.specs.declared.plan.Planned.{Planned}
use Rattle.pod_keeper.proofs.Committed.{SameEffects, records_of, grown, failed, leaves}
use Rattle.pod_pages.specs.State.{VersionState, state_after}
use Rattle.pod_records.specs.Records.{IsSnapshotText}
use Rattle.pod_rows.specs.Apply.{Applies, applied}
use Rattle.pod_rows.specs.Pod.{Pod}

-- an entry without the spare room of its lists
bare_applies : (pod : Pod) (next : ℕ) (entry : Entry) → Applies pod next entry → Applies pod next (bare_entry entry)
bare_applies pod next entry h = record { number = h.number; numbered = h.numbered; rows = h.rows; edits = h.edits; well_formed = h.well_formed }

bare_stored : (entry : Entry) → IsStorable entry → IsStorable (bare_entry entry)
bare_stored entry h = record {
  seq = h.seq;
  conn = h.conn;
  number = h.number;
  agent = h.agent;
  moment = h.moment;
  method = h.method;
  path = h.path;
  edits = h.edits;
  bases = h.bases;
}

bare_text : (entry : Entry) → entry_bytes entry ≡ entry_bytes (bare_entry entry)
unfolding entry_bytes origin_bytes request_bytes
bare_text entry = refl

module _ {D : Type 0} (image : D → List ℕ → Type 0) (moment : D → ℕ) (left_since : D → ℕ → List ℕ → Type 0) where
  -- the records of a keeper that stands for a history
  pub known_records : (keeper : KeeperState D) (history : History) (place : ℕ) (doubt : Doubt) → IsKept image keeper history place doubt → (bodies : List (List ℕ)) × (of : RecordDoubt) × HasRecords image keeper.first keeper.second keeper.pair bodies of
  known_records keeper history place doubt kept =
      let of = records_of image moment left_since keeper history place doubt kept in (kept.bodies, of.records_doubt, of.has)

  pub record Entering (old new : KeeperState D) (entry : Entry) {T E : Type 0} (r : Result T E) : Type 0 where
    pub snapshot : Option (List ℕ)
    pub applies : Applies old.pod old.next entry
    pub stored : IsStorable entry
    pub text : IfSome snapshot (IsSnapshotText old.pod old.next)
    pub due : IsSome snapshot → IsCheckpointDue old.pair
    pub not_due : snapshot ≡ None → IsCheckpointDue old.pair → ⊥
    pub writes : Writes image moment left_since old.first old.second new.first new.second old.pair new.pair r snapshot (entry_bytes entry)

  module _ (old new : KeeperState D) (entry : Entry) {T E : Type 0} where
    bare_writes : (r : Result T E) → (e : Entering old new entry r) → Writes image moment left_since old.first old.second new.first new.second old.pair new.pair r e.snapshot (entry_bytes (bare_entry entry))
    bare_writes r e = subst (Writes image moment left_since old.first old.second new.first new.second old.pair new.pair r e.snapshot) (bare_text entry) e.writes

    pub entered_pairs : (r : Result T E) → Entering old new entry r → (history : History) (place : ℕ) (doubt : Doubt) → IsKept image old history place doubt → IsSure image old.first old.second old.pair → (IsCheckpointDue old.pair → IsLong image old.first old.second old.pair)
        → LeavesPodsOf moment left_since old new history (entries_in doubt ++ bare_entry entry ∷ [])
    entered_pairs r e history place doubt kept = leaves image moment left_since old history place doubt kept (bare_entry entry) e.snapshot (bare_applies old.pod old.next entry e.applies) (bare_stored entry e.stored) e.text e.due e.not_due new r (bare_writes r e)

    pub entered_sure : (r : Result T E) → Entering old new entry r → IsSure image old.first old.second old.pair → (IsCheckpointDue old.pair → IsLong image old.first old.second old.pair) → IsSure image new.first new.second new.pair
    entered_sure r e sure long = e.writes.sure sure (λ some. long (e.due some))

    pub entered_long : (r : Result T E) → Entering old new entry r → IsSure image old.first old.second old.pair → IsLong image old.first old.second old.pair → IsLong image new.first new.second new.pair
    entered_long r e sure long = e.writes.long sure long

    pub entered_grown : (x : T) → Entering old new entry {T = T} {E = E} (Ok x) → new.pod ≡ applied old.pod entry → new.next ≡ old.next + 1 → new.last ≡ Some entry.moment → (new.effects ≡ (state_after (version_in old) entry).effects) × (new.oldest ≡ (state_after (version_in old) entry).oldest) → (history : History) (place : ℕ) (doubt : Doubt) → IsKept image old history place doubt → IsGrown image old new history place (bare_entry entry)
    entered_grown x e pod next last feed history place doubt kept = grown image moment left_since old history place doubt kept (bare_entry entry) e.snapshot (bare_applies old.pod old.next entry e.applies) (bare_stored entry e.stored) e.text e.due e.not_due new x (bare_writes (Ok x) e) pod next last feed

    pub entered_failed : (f : E) → Entering old new entry {T = T} {E = E} (Err f) → new.pod ≡ old.pod → new.next ≡ old.next → new.last ≡ old.last → SameEffects new old → (history : History) (place : ℕ) (doubt : Doubt) → IsKept image old history place doubt → IsLeftFaulted image new history place doubt (bare_entry entry)
    entered_failed f e pod next last feed history place doubt kept = failed image moment left_since old history place doubt kept (bare_entry entry) e.snapshot (bare_applies old.pod old.next entry e.applies) (bare_stored entry e.stored) e.text e.due e.not_due new f (bare_writes (Err f) e) pod next last feed

-- what `carry` does, from what was planned and what was written
module _ {D : Type 0} (image : D → List ℕ → Type 0) (moment : D → ℕ) (left_since : D → ℕ → List ℕ → Type 0) (old was : KeeperState D) (same : was ≡ old) (planned : Planned) (is : IsPlannedAt old planned) (first second : D) (pair : PairState) where
  -- the keeper with the entry, and without
  abbrev pub carried : KeeperState D
  carried = record {
    first = first;
    second = second;
    pair = pair;
    pod = (arc_value planned.version).pod;
    next = (arc_value planned.version).next;
    effects = (arc_value planned.version).effects;
    oldest = (arc_value planned.version).oldest;
    last = Some planned.entry.moment;
  }

  abbrev pub stayed : KeeperState D
  stayed = record {
    first = first;
    second = second;
    pair = pair;
    pod = was.pod;
    next = was.next;
    effects = was.effects;
    oldest = was.oldest;
    last = was.last;
  }

  abbrev pub Wrote : Result (Unit {0}) DiskFault → Type 0
  Wrote r = Writes image moment left_since was.first was.second first second was.pair pair r planned.snapshot planned.body

  entering : (new : KeeperState D) (r : Result (Unit {0}) DiskFault) → Writes image moment left_since old.first old.second new.first new.second old.pair new.pair r planned.snapshot planned.body → Entering image moment left_since old new planned.entry r
  entering new r w = record {
    snapshot = planned.snapshot;
    applies = is.applies;
    stored = is.storable;
    text = is.snapshot_is;
    due = is.due;
    not_due = is.not_due;
    writes = subst (Writes image moment left_since old.first old.second new.first new.second old.pair new.pair r planned.snapshot) is.body_is w;
  }

  entering_carried : (r : Result (Unit {0}) DiskFault) → Wrote r → Entering image moment left_since old carried planned.entry r
  entering_carried r w = entering carried r (subst (λ (s : KeeperState D). Writes image moment left_since s.first s.second first second s.pair pair r planned.snapshot planned.body) same w)

  entering_stayed : (r : Result (Unit {0}) DiskFault) → Wrote r → Entering image moment left_since old stayed planned.entry r
  entering_stayed r w = entering stayed r (subst (λ (s : KeeperState D). Writes image moment left_since s.first s.second first second s.pair pair r planned.snapshot planned.body) same w)

  -- at each moment, whatever the version is then
  pub carried_pairs : (r : Result (Unit {0}) DiskFault) → Wrote r → (history : History) (place : ℕ) (doubt : Doubt) → IsKept image old history place doubt → IsSure image old.first old.second old.pair → (IsCheckpointDue old.pair → IsLong image old.first old.second old.pair)
      → LeavesTogether moment left_since old.first old.second first second (ThroughOpenings (StandsForOneOf history (entries_in doubt ++ bare_entry planned.entry ∷ [])))
  carried_pairs r w = entered_pairs image moment left_since old carried planned.entry r (entering_carried r w)

  pub carried_sure : (r : Result (Unit {0}) DiskFault) → Wrote r → IsSure image old.first old.second old.pair → (IsCheckpointDue old.pair → IsLong image old.first old.second old.pair) → IsSure image first second pair
  carried_sure r w = entered_sure image moment left_since old carried planned.entry r (entering_carried r w)

  pub carried_long : (r : Result (Unit {0}) DiskFault) → Wrote r → IsSure image old.first old.second old.pair → IsLong image old.first old.second old.pair → IsLong image first second pair
  carried_long r w = entered_long image moment left_since old carried planned.entry r (entering_carried r w)

  -- the entry was written
  pub carried_grown : (x : Unit {0}) → Wrote (Ok x) → (history : History) (place : ℕ) (doubt : Doubt) → IsKept image old history place doubt → IsGrown image old carried history place (bare_entry planned.entry)
  carried_grown x w = entered_grown image moment left_since old carried planned.entry x (entering_carried (Ok x) w)
      (ap (λ (v : VersionState). v.pod) is.after) (ap (λ (v : VersionState). v.next) is.after) refl
      (ap (λ (v : VersionState). v.effects) is.after, ap (λ (v : VersionState). v.oldest) is.after)

  pub stands_carried : (x : Unit {0}) → Wrote (Ok x) → StandsForSome image old → StandsForSome image carried
  stands_carried x w stands =
      let grown = carried_grown x w stands.0 stands.1 stands.2 stands.3 in
      (longer stands.0 (bare_entry planned.entry ∷ []), grown.new_place, certain, grown.kept)

  -- the write failed
  pub carry_failed : (f : DiskFault) → Wrote (Err f) → (history : History) (place : ℕ) (doubt : Doubt) → IsKept image old history place doubt → IsLeftFaulted image stayed history place doubt (bare_entry planned.entry)
  carry_failed f w = entered_failed image moment left_since old stayed planned.entry f (entering_stayed (Err f) w)
      (ap (λ (s : KeeperState D). s.pod) same) (ap (λ (s : KeeperState D). s.next) same) (ap (λ (s : KeeperState D). s.last) same)
      (ap (λ (s : KeeperState D). s.effects) same, ap (λ (s : KeeperState D). s.oldest) same)

  pub stands_stayed : (f : DiskFault) → Wrote (Err f) → StandsForSome image old → StandsForSome image stayed
  stands_stayed f w stands =
      let left = carry_failed f w stands.0 stands.1 stands.2 stands.3 in
      (stands.0, left.new_place, left.left, left.kept)

  -- a count of faults rose
  pub carry_counted : (faults : D → ℕ) → CountIncreased (faults was.first) (faults first) ⊎ CountIncreased (faults was.second) (faults second)
      → CountIncreased (faults old.first) (faults first) ⊎ CountIncreased (faults old.second) (faults second)
  carry_counted faults = subst (λ (s : KeeperState D). CountIncreased (faults s.first) (faults first) ⊎ CountIncreased (faults s.second) (faults second)) same
