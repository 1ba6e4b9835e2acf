-- The changes that a store's lock carried to the disks, one after the other, as steps of its keeper:
-- what a crash leaves at each moment since the store was opened.
use Rattle.std.specs.Prelude.{◌≡◌, ◌⊎◌, ◌≤◌, ◌+◌, ℕ, List, [], ◌∷◌, ◌++◌, Option, IsSome}
use Rattle.std.specs.Option.{option_to_list}
use Rattle.journal_pair.specs.PairMoments.{ThroughOpenings}
use Rattle.journal_pair.specs.Doubts.{IsSure, IsLong}
use Rattle.pod_command.specs.declared.entry.Entry.{Entry}
use Rattle.pod_core.specs.History.{History, longer}
use Rattle.pod_core.specs.KeeperSteps.{IsReplyAtEnd, item_at_end}
use Rattle.pod_core.specs.Session.{Item, Outcome, answered, disk_fault, no_memory, entries_of}
use Rattle.pod_keeper.specs.CrashedPods.{StandsForOneOf}
use Rattle.pod_keeper.specs.KeeperRuns.{StandsWith, TakesItem, stamp_at}
use Rattle.pod_keeper.specs.KeeperState.{KeeperState}

-- A change that was carried to the disks: the number of its connection, the moment of its stamp, and
-- its item. Its reply has an entry, which was added, or met a disk fault.
pub record TakenItem : Type 0 where
  pub conn : ℕ
  pub clock : ℕ
  pub item : Item

-- the entries that such changes added
abbrev pub entries_taken : List TakenItem → List Entry
entries_taken [] = []
entries_taken (one ∷ others) = entries_of one.item ++ entries_taken others

-- how many of them met a disk fault
abbrev pub faults_on : Outcome → ℕ
faults_on (answered place reply) = 0
faults_on no_memory = 0
faults_on disk_fault = 1

abbrev pub faults_taken : List TakenItem → ℕ
faults_taken [] = 0
faults_taken (one ∷ others) = faults_on one.item.outcome + faults_taken others

-- The change was answered at the end of the history, by the reply there, which has an entry. One that
-- met a disk fault was not answered.
abbrev pub IsAnsweredThere : History → TakenItem → Outcome → Type 0
IsAnsweredThere history one (answered place reply) =
    (one.item ≡ item_at_end history one.item.request one.item.asked
    (stamp_at one.conn one.clock one.item) reply)
    × IsReplyAtEnd history one.item.request one.item.asked (stamp_at one.conn one.clock one.item)
    reply × IsSome reply.entry
IsAnsweredThere history one no_memory = ⊥
IsAnsweredThere history one disk_fault = Unit {0}

-- The changes that a store's lock carried to the disks since the store was opened. They have this
-- property, added the entries of this list, and so many of them met a disk fault.
pub record Took (leads : List TakenItem → Type 0) (list : List Entry) (faults : ℕ) : Type 0 where
  pub taken : List TakenItem
  pub entries : entries_taken taken ≡ list
  pub faulted : faults_taken taken ≡ faults
  pub so : leads taken

module _ {D : Type 0} (image : D → List ℕ → Type 0) (moment : D → ℕ)
    (left_since : D → ℕ → List ℕ → Type 0) where
  -- One change, as a step of a keeper that represented the history with that in doubt.
  pub record TakesChange (one : TakenItem) (old : KeeperState D) (history : History)
      (doubt : Option Entry) (new : KeeperState D) (doubt_new : Option Entry) : Type 0 where
    pub step : TakesItem image moment left_since one.conn one.clock old history doubt one.item new
        doubt_new
    pub answer : IsAnsweredThere history one one.item.outcome

  -- Changes one after the other, each from the keeper that the one before it left, and from what was
  -- in doubt there.
  abbrev pub TakesChanges : KeeperState D → History → Option Entry → List TakenItem
      → KeeperState D → Option Entry → Type 0
  TakesChanges old history doubt [] new doubt_new = (new ≡ old) × (doubt_new ≡ doubt)
  TakesChanges old history doubt (one ∷ others) new doubt_new =
      (mid : KeeperState D) × (between : Option Entry)
      × TakesChange one old history doubt mid between
      × TakesChanges mid (longer history (entries_of one.item)) between others new doubt_new

  -- By these changes a keeper has come to be this one, for each history that it represented, with
  -- whatever was in doubt.
  abbrev pub Leads : KeeperState D → List TakenItem → KeeperState D → Type 0
  Leads old taken new = (history : History) (doubt : Option Entry)
      → StandsWith image old history doubt
      → (after : Option Entry) × TakesChanges old history doubt taken new after

  -- So has that of a store which began with one of these keepers.
  abbrev pub LeadsFrom : (KeeperState D → Type 0) → List TakenItem → KeeperState D → Type 0
  LeadsFrom began taken left = (old : KeeperState D) → began old → Leads old taken left

  -- They lead so to the keeper that is left; they added the entries of this list, and so many of them
  -- met a disk fault.
  abbrev pub TookChanges : (KeeperState D → Type 0) → List Entry → ℕ → KeeperState D → Type 0
  TookChanges began list faults left = Took (λ taken. LeadsFrom began taken left) list faults

  -- ---- moments

  -- This image of the first disk is one of a step: with whatever a crash left of the other disk in
  -- that step it represents the history with the entries of the changes before, or that with the
  -- entry in doubt or the step's own, and so do those that crashes leave of the two while they are
  -- opened.
  abbrev pub IsOfChangeOnFirst : (old : KeeperState D) (history : History) (doubt : Option Entry)
      (taken : List TakenItem) (new : KeeperState D) (doubt_new : Option Entry)
      → TakesChanges old history doubt taken new doubt_new → List ℕ → Type 0
  IsOfChangeOnFirst old history doubt [] new doubt_new steps c = ⊥
  IsOfChangeOnFirst old history doubt (one ∷ others) new doubt_new steps c =
      ((d : List ℕ) → left_since steps.0.second (moment old.second) d
      → ThroughOpenings (StandsForOneOf history
      (option_to_list doubt ++ option_to_list steps.2.step.under_way)) c d)
      ⊎ IsOfChangeOnFirst steps.0 (longer history (entries_of one.item)) steps.1 others new
      doubt_new steps.3 c

  -- and so of the second
  abbrev pub IsOfChangeOnSecond : (old : KeeperState D) (history : History) (doubt : Option Entry)
      (taken : List TakenItem) (new : KeeperState D) (doubt_new : Option Entry)
      → TakesChanges old history doubt taken new doubt_new → List ℕ → Type 0
  IsOfChangeOnSecond old history doubt [] new doubt_new steps d = ⊥
  IsOfChangeOnSecond old history doubt (one ∷ others) new doubt_new steps d =
      ((c : List ℕ) → left_since steps.0.first (moment old.first) c
      → ThroughOpenings (StandsForOneOf history
      (option_to_list doubt ++ option_to_list steps.2.step.under_way)) c d)
      ⊎ IsOfChangeOnSecond steps.0 (longer history (entries_of one.item)) steps.1 others new
      doubt_new steps.3 d

  -- Whatever a crash since an earlier moment leaves of a disk after these changes might have been
  -- left before them, or it is of one of them.
  pub record AreOfChanges (old : KeeperState D) (history : History) (doubt : Option Entry)
      (taken : List TakenItem) (new : KeeperState D) (doubt_new : Option Entry)
      (steps : TakesChanges old history doubt taken new doubt_new) : Type 0 where
    pub later_first : moment old.first ≤ moment new.first
    pub later_second : moment old.second ≤ moment new.second
    pub on_first : (t : ℕ) (c : List ℕ) → t ≤ moment old.first → left_since new.first t c
        → left_since old.first t c
        ⊎ IsOfChangeOnFirst old history doubt taken new doubt_new steps c
    pub on_second : (t : ℕ) (d : List ℕ) → t ≤ moment old.second → left_since new.second t d
        → left_since old.second t d
        ⊎ IsOfChangeOnSecond old history doubt taken new doubt_new steps d

  -- The law: so it is where the disk beside the active journal is passed over and has the place of
  -- a first gate.
  abbrev pub MomentsAreOfChanges : Type 0
  MomentsAreOfChanges = (old : KeeperState D) (history : History) (doubt : Option Entry)
      (taken : List TakenItem) (new : KeeperState D) (doubt_new : Option Entry)
      (steps : TakesChanges old history doubt taken new doubt_new)
      → IsSure image old.first old.second old.pair → IsLong image old.first old.second old.pair
      → AreOfChanges old history doubt taken new doubt_new steps
