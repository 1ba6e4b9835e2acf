-- The moments of a run of a keeper: each is one of a step.
use Rattle.std.specs.Prelude.{◌⊎◌, ◌≤◌, ℕ, List, [], ◌∷◌, ◌++◌, Option}
use Rattle.std.specs.Option.{option_to_list}
use Rattle.journal_pair.specs.PairMoments.{ThroughOpenings}
use Rattle.pod_command.specs.declared.entry.Entry.{Entry}
use Rattle.pod_core.specs.History.{History, longer}
use Rattle.pod_core.specs.Session.{entries_of}
use Rattle.pod_keeper.specs.CrashedPods.{StandsForOneOf}
use Rattle.pod_keeper.specs.KeeperDisks.{HasLongDisks, HasSureDisks}
use Rattle.pod_keeper.specs.KeeperRuns.{ConnItem, TakesItems}
use Rattle.pod_keeper.specs.KeeperState.{KeeperState}

module _ {D : Type 0} (image : D → List ℕ → Type 0) (moment : D → ℕ)
    (left_since : D → ℕ → List ℕ → Type 0) (may_give : ℕ → Type 0) where
  -- This image of the first disk is one of a step: with whatever a crash left of the other disk in
  -- that step it represents the history with the entries of the items before, or that with the entry
  -- in doubt or the step's own, and so do those that crashes leave of the two while they are opened.
  abbrev pub IsOfStepOnFirst : (old : KeeperState D) (history : History) (doubt : Option Entry)
      (items : List ConnItem) (new : KeeperState D) (doubt_new : Option Entry)
      → TakesItems image moment left_since may_give old history doubt items new doubt_new
      → List ℕ → Type 0
  IsOfStepOnFirst old history doubt [] new doubt_new steps c = ⊥
  IsOfStepOnFirst old history doubt (one ∷ others) new doubt_new steps c =
      ((d : List ℕ) → left_since steps.0.second (moment old.second) d
      → ThroughOpenings (StandsForOneOf history
      (option_to_list doubt ++ option_to_list steps.2.2.under_way)) c d)
      ⊎ IsOfStepOnFirst steps.0 (longer history (entries_of one.item)) steps.1 others new doubt_new
      steps.3 c

  -- and so of the second
  abbrev pub IsOfStepOnSecond : (old : KeeperState D) (history : History) (doubt : Option Entry)
      (items : List ConnItem) (new : KeeperState D) (doubt_new : Option Entry)
      → TakesItems image moment left_since may_give old history doubt items new doubt_new
      → List ℕ → Type 0
  IsOfStepOnSecond old history doubt [] new doubt_new steps d = ⊥
  IsOfStepOnSecond old history doubt (one ∷ others) new doubt_new steps d =
      ((c : List ℕ) → left_since steps.0.first (moment old.first) c
      → ThroughOpenings (StandsForOneOf history
      (option_to_list doubt ++ option_to_list steps.2.2.under_way)) c d)
      ⊎ IsOfStepOnSecond steps.0 (longer history (entries_of one.item)) steps.1 others new doubt_new
      steps.3 d

  -- Whatever a crash since an earlier moment leaves of a disk after these steps might have been left
  -- before them, or it is of one of them.
  pub record AreOfSteps (old : KeeperState D) (history : History) (doubt : Option Entry)
      (items : List ConnItem) (new : KeeperState D) (doubt_new : Option Entry)
      (steps : TakesItems image moment left_since may_give old history doubt items new doubt_new)
      : Type 0 where
    pub later_first : moment old.first ≤ moment new.first
    pub later_second : moment old.second ≤ moment new.second
    pub on_first : (t : ℕ) (c : List ℕ) → t ≤ moment old.first → left_since new.first t c
        → left_since old.first t c
        ⊎ IsOfStepOnFirst old history doubt items new doubt_new steps c
    pub on_second : (t : ℕ) (d : List ℕ) → t ≤ moment old.second → left_since new.second t d
        → left_since old.second t d
        ⊎ IsOfStepOnSecond old history doubt items new doubt_new steps d

  -- The law: so it is where the disk beside the active journal is passed over and has the place of
  -- a first gate.
  abbrev pub MomentsAreOfSteps : Type 0
  MomentsAreOfSteps = (old : KeeperState D) (history : History) (doubt : Option Entry)
      (items : List ConnItem) (new : KeeperState D) (doubt_new : Option Entry)
      (steps : TakesItems image moment left_since may_give old history doubt items new doubt_new)
      → HasSureDisks image old → HasLongDisks image old
      → AreOfSteps old history doubt items new doubt_new steps
