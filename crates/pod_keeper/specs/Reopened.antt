-- Openings after a crash.
use Rattle.std.specs.Prelude.{◌≡◌, ◌⊎◌, ℕ, List, [], ◌∷◌, Contains, Option, Some}
use Rattle.std.specs.List.{AllByRecursion}
use Rattle.journal_pair.specs.PairMoments.{LeavesPairs, ThroughOpenings}
use Rattle.journal_pair.specs.Doubts.{IsSure}
use Rattle.pod_command.specs.declared.entry.Entry.{Entry}
use Rattle.pod_core.specs.History.{History, longer}
use Rattle.pod_disk.specs.Disk.{EachImage}
use Rattle.pod_keeper.specs.Commits.{LeavesPodsOf}
use Rattle.pod_keeper.specs.CrashedPods.{StandsForOneOf}
use Rattle.pod_keeper.specs.Kept.{Doubt, entries_in, IsKept}
use Rattle.pod_keeper.specs.KeeperState.{KeeperState}
use Rattle.pod_keeper.specs.OpenedPods.{IsOpened, OpensDisks}
use Rattle.pod_keeper.specs.Stored.{IsStored}

-- The records of a journal of this format hold the history from some place on, or they hold it with
-- one of these entries after its end.
abbrev pub HoldsOneOf : History → List Entry → ℕ → List (List ℕ) → Type 0
HoldsOneOf history entries format bodies = ((place : ℕ) × IsStored history format place bodies)
    ⊎ ((entry : Entry) × Contains entries entry
    × ((place : ℕ) × IsStored (longer history (entry ∷ [])) format place bodies))

module _ {D : Type 0} (image : D → List ℕ → Type 0) where
  -- Where a crash left two disks that represent the history, or it with one of these entries, the
  -- records that an opening takes hold just that.
  abbrev pub OpeningsGiveWhatStands : Type 0
  OpeningsGiveWhatStands = (history : History) (entries : List Entry) (first second : List ℕ)
      (bodies : List (List ℕ)) (keeper : KeeperState D)
      → StandsForOneOf history entries first second
      → IsOpened image (Some first) (Some second) bodies keeper
      → HoldsOneOf history entries keeper.pair.journal.format bodies

-- One opening: the two disks before it, and what it made of them at its end, whether it returned a
-- keeper, refused them or was cut short.
pub record Opening (D : Type 0) : Type 0 where
  pub first : D
  pub second : D
  pub first_new : D
  pub second_new : D

module _ {D : Type 0} (content : D → Option (List ℕ)) (image : D → List ℕ → Type 0) (moment : D → ℕ)
    (left_since : D → ℕ → List ℕ → Type 0) (faults : D → ℕ) where
  -- Openings one after the other. The crash images of the disks of the first are among these two
  -- sets, and those of each further one are among what a crash at a moment of the one before leaves.
  abbrev pub OpenInTurn : (List ℕ → Type 0) → (List ℕ → Type 0) → List (Opening D) → Type 0
  OpenInTurn on_first on_second [] = Unit {0}
  OpenInTurn on_first on_second (one ∷ others) =
      EachImage (image one.first) on_first × EachImage (image one.second) on_second
      × OpensDisks image moment left_since faults one.first one.second one.first_new one.second_new
      × OpenInTurn (left_since one.first_new (moment one.first))
      (left_since one.second_new (moment one.second)) others

  -- At each moment of the opening each pair of crash images represents the history, or it with one
  -- of these entries, and stays so however often it is opened. A keeper that the opening returns has
  -- records that hold just that.
  pub record OpensOneOf (history : History) (entries : List Entry) (one : Opening D) : Type 0 where
    pub leaves : LeavesPairs moment left_since one.first one.second one.first_new one.second_new
        (ThroughOpenings (StandsForOneOf history entries))
    pub gives : (bodies : List (List ℕ)) (keeper : KeeperState D) (first second : List ℕ)
        → content one.first ≡ Some first → content one.second ≡ Some second
        → IsOpened image (Some first) (Some second) bodies keeper
        → HoldsOneOf history entries keeper.pair.journal.format bodies

  -- Two disks that have only crash images of a keeper's, as one that was closed or stopped between
  -- two calls leaves them, are opened, and crashes cut the openings short, one after the other: each
  -- of them gives the keeper's history, or it with the entry in doubt.
  abbrev pub OpensAfter : KeeperState D → Type 0
  OpensAfter keeper = (history : History) (place : ℕ) (doubt : Doubt)
      → IsKept image keeper history place doubt
      → IsSure image keeper.first keeper.second keeper.pair
      → (openings : List (Opening D))
      → OpenInTurn (image keeper.first) (image keeper.second) openings
      → AllByRecursion (OpensOneOf history (entries_in doubt)) openings

  -- So it is where a crash came at a moment of a call, of which the call says which entries may
  -- follow the history.
  abbrev pub OpensAfterCrash : Type 0
  OpensAfterCrash = (old new : KeeperState D) (history : History) (entries : List Entry)
      → LeavesPodsOf moment left_since old new history entries
      → (openings : List (Opening D))
      → OpenInTurn (left_since new.first (moment old.first))
      (left_since new.second (moment old.second)) openings
      → AllByRecursion (OpensOneOf history entries) openings
