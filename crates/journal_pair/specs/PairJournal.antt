-- A pair on two disks with these crash images.
use Rattle.std.specs.Prelude.{◌≡◌, ◌⊎◌, ◌<◌, ◌≤◌, ◌+◌, ◌^◌, ℕ, List, ◌∷◌, length, true, false}
use Rattle.pod_disk.specs.Disk.{EachImage}
use Rattle.journal_log.specs.Frames.{framed_of}
use Rattle.journal_log.specs.CleanJournal.{IsShort, IsClean, IsInDoubt}
use Rattle.journal_log.specs.Renewing.{IsNewJournal}
use Rattle.journal_pair.specs.Sides.{active_of, other_of}
use Rattle.journal_pair.specs.Stores.{IsPassedOver}
use Rattle.journal_pair.specs.PairState.{PairState}

-- the first of these records is a snapshot, whose record has that many bytes
pub record HasSnapshot (len : ℕ) (bodies : List (List ℕ)) : Type 0 where
  pub snapshot : List ℕ
  pub entries : List (List ℕ)
  pub are : bodies ≡ snapshot ∷ entries
  pub size : len ≡ length (framed_of snapshot)

module _ {D : Type 0} (image : D → List ℕ → Type 0) (first second : D) (pair : PairState) where
  -- No gate is in doubt: the active journal is clean with these records, a snapshot and entries.
  pub record IsPairClean (bodies : List (List ℕ)) : Type 0 where
    pub journal : IsClean (image (active_of pair.active first second)) pair.journal bodies
    pub snapshot : HasSnapshot pair.snapshot bodies
    pub certain : pair.checkpoint ≡ false

  -- The last gate of the active journal is in doubt, with this record after it.
  pub record IsAppendInDoubt (bodies : List (List ℕ)) (body : List ℕ) : Type 0 where
    pub journal : IsInDoubt (image (active_of pair.active first second)) pair.journal bodies body
    pub snapshot : HasSnapshot pair.snapshot bodies
    pub certain : pair.checkpoint ≡ false

  -- The active journal is clean with these records, and on the other disk the first gate of a
  -- checkpoint is in doubt: the journal of the next epoch with this snapshot alone.
  pub record IsCheckpointInDoubt (bodies : List (List ℕ)) (snapshot : List ℕ) : Type 0 where
    pub journal : IsClean (image (active_of pair.active first second)) pair.journal bodies
    pub old : HasSnapshot pair.snapshot bodies
    pub most : pair.journal.epoch < 2 ^ 63
    pub short : IsShort snapshot
    pub new : EachImage (image (other_of pair.active first second))
        (IsNewJournal (pair.journal.epoch + 1) snapshot)
    pub doubtful : pair.checkpoint ≡ true

  -- one of the two gates is in doubt
  abbrev pub IsPairInDoubt : List (List ℕ) → List ℕ → Type 0
  IsPairInDoubt bodies body = IsAppendInDoubt bodies body ⊎ IsCheckpointInDoubt bodies body

  -- of some records
  abbrev pub HasGateInDoubt : Type 0
  HasGateInDoubt = (bodies : List (List ℕ)) × (body : List ℕ) × IsPairInDoubt bodies body

  -- of whichever records
  abbrev pub ForEachInDoubt : (List (List ℕ) → List ℕ → Type 0) → Type 0
  ForEachInDoubt P = (bodies : List (List ℕ)) (body : List ℕ)
      → IsPairInDoubt bodies body → P bodies body

  -- Each crash image of the disk beside the active journal is passed over.
  abbrev pub IsPassedBeside : Type 0
  IsPassedBeside = EachImage (image (other_of pair.active first second))
      (IsPassedOver pair.active pair.journal.epoch)

  -- and has the place of a first gate
  abbrev pub IsLongBeside : Type 0
  IsLongBeside = EachImage (image (other_of pair.active first second)) (λ c. 17 ≤ length c)
