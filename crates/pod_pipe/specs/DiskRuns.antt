-- The two disks of a store before a run and after it.
use Rattle.std.specs.Prelude.{ℕ, List, IfSome, Option}
use Rattle.pod_disk.specs.declared.place.Disks.{Disks}
use Rattle.pod_disk.specs.declared.place.Place.{Place}
use Rattle.pod_keeper.specs.OpenedPods.{OpensDisks}

-- What the trait `Disk` says of disks of a type, and two of them before a run and after it.
pub record DiskRun (D : Type 0) : Type 1 where
  pub content : D → Option (List ℕ)
  pub image : D → List ℕ → Type 0
  pub moment : D → ℕ
  pub left_since : D → ℕ → List ℕ → Type 0
  pub faults : D → ℕ
  pub old : Disks D
  pub new : Disks D

abbrev pub disks_of : {D : Type 0} → (D → Option (List ℕ)) → (D → List ℕ → Type 0) → (D → ℕ)
    → (D → ℕ → List ℕ → Type 0) → (D → ℕ) → Disks D → Disks D → DiskRun D
disks_of content image moment left_since faults old new = record {
  content = content;
  image = image;
  moment = moment;
  left_since = left_since;
  faults = faults;
  old = old;
  new = new;
}

-- what holds of the disks in a place
abbrev pub HoldsOfDisks : {D T : Type 0} → (D → Option (List ℕ)) → (D → List ℕ → Type 0) → (D → ℕ)
    → (D → ℕ → List ℕ → Type 0) → (D → ℕ) → Place D T → Place D T → (DiskRun D → Type 0) → Type 0
HoldsOfDisks content image moment left_since faults old new P = IfSome old.disks (λ a.
    IfSome new.disks (λ b. P (disks_of content image moment left_since faults a b)))

-- they are as an opening of the store leaves them
abbrev pub AreOpened : {D : Type 0} → DiskRun D → Type 0
AreOpened run = OpensDisks run.image run.moment run.left_since run.faults run.old.first
    run.old.second run.new.first run.new.second
