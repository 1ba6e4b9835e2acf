-- A new store.
use Rattle.std.proofs.Common.{◌≡◌, ℕ, List, [], ◌∷◌, IsTrue, sym, subst, arith}
use Rattle.journal_log.specs.Heads.{IsClosedHead}
use Rattle.journal_log.specs.declared.fault.Side.{Side}
use Rattle.journal_log.specs.declared.fault.Side.TheVariants.{First}
use Rattle.journal_pair.specs.PairState.{PairState}
use Rattle.journal_pair.specs.Stores.{StoreStands}
use Rattle.pod_rows.specs.FirstPods.{first_pod, FirstPodsAreWellFormed}
use Rattle.pod_base.specs.declared.moment.Moment.{Moment}
use Rattle.pod_command.specs.declared.snapshot.Snapshot.{Snapshot}
use Rattle.pod_keeper.specs.CrashedPods.{StandsFor}
use Rattle.pod_keeper.specs.NewStores.{new_history, IsNewStore}
use Rattle.pod_keeper.proofs.Storing.{stored_at_end}
use Rattle.pod_records.specs.Records.{IsSnapshotText}
use Rattle.pod_rows.specs.Base.{is_base}
use Rattle.pod_rows.specs.WellFormed.{IsWellFormedSnapshot, WellFormed, pod_of}

pub first_well_formed : (base owner : List ℕ) (moment : Moment) (snapshot : Snapshot) → FirstPodsAreWellFormed → IsTrue (is_base base) → pod_of snapshot ≡ first_pod base owner moment → snapshot.seq ≡ 0 → IsWellFormedSnapshot snapshot
first_well_formed base owner moment snapshot law is pod number = record {
  number = omega (arith, number);
  pod = subst WellFormed (sym pod) (law base owner moment is);
}

pub first_text : (base owner : List ℕ) (moment : Moment) (snapshot : Snapshot) (text : List ℕ) → pod_of snapshot ≡ first_pod base owner moment → snapshot.seq ≡ 0 → IsSnapshotText (pod_of snapshot) snapshot.seq text → IsSnapshotText (first_pod base owner moment) 0 text
first_text base owner moment snapshot text pod number h = subst (λ p. IsSnapshotText p 0 text) pod (subst (λ n. IsSnapshotText (pod_of snapshot) n text) number h)

pub new_stands : (base owner : List ℕ) (moment : Moment) (text : List ℕ) (side : Side) (format epoch : ℕ) (c d : List ℕ) → IsSnapshotText (first_pod base owner moment) 0 text → format ≡ 2 → StoreStands side format epoch (text ∷ []) c d → StandsFor (new_history base owner moment) c d
new_stands base owner moment text side format epoch c d h is stands = record {
  side = side;
  format = 2;
  epoch = epoch;
  bodies = text ∷ [];
  place = 0;
  stands = subst (λ f. StoreStands side f epoch (text ∷ []) c d) is stands;
  stored = stored_at_end (new_history base owner moment) text h;
}

-- what a pair begins on the two disks
pub new_store : (base owner : List ℕ) (moment : Moment) (text : List ℕ) (pair : PairState) (c d : List ℕ) → IsSnapshotText (first_pod base owner moment) 0 text → pair.active ≡ First → pair.journal.format ≡ 2 → pair.journal.epoch ≡ 1
    → StoreStands pair.active pair.journal.format pair.journal.epoch (text ∷ []) c d → IsClosedHead 0 d → IsNewStore base owner moment c d
new_store base owner moment text pair c d h active format epoch stands head = record {
  text = text;
  snapshot = h;
  stands = subst (λ (s : Side). StoreStands s 2 1 (text ∷ []) c d) active
      (subst (λ (f : ℕ). StoreStands pair.active f 1 (text ∷ []) c d) format
      (subst (λ (e : ℕ). StoreStands pair.active pair.journal.format e (text ∷ []) c d) epoch stands));
  beside = head;
}
