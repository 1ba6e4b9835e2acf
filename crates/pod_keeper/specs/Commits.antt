-- What a commit and a checkpoint do to a keeper, for a history that it represented.
use Rattle.std.specs.Prelude.{◌≡◌, ◌⊎◌, ℕ, ◌+◌, max, List, [], ◌∷◌, ◌++◌, All, Option, Some}
use Rattle.std.specs.Prelude.{None}
use Rattle.journal_pair.specs.PairMoments.{ThroughOpenings}
use Rattle.journal_pair.specs.PairState.{PairState}
use Rattle.journal_pair.specs.Sides.{opposite_of}
use Rattle.journal_pair.specs.Together.{LeavesTogether}
use Rattle.pod_base.specs.declared.moment.Moment.{Moment}
use Rattle.pod_base.specs.declared.moment.Stamp.{Stamp}
use Rattle.pod_base.specs.declared.request.Request.{Request}
use Rattle.pod_base.specs.declared.response.Response.{Response}
use Rattle.pod_command.specs.declared.entry.Entry.{Entry}
use Rattle.pod_core.specs.History.{History, end_of, longer}
use Rattle.pod_core.specs.KeeperSteps.{IsReplyAtEnd}
use Rattle.pod_keeper.specs.CrashedPods.{StandsForOneOf}
use Rattle.pod_keeper.specs.KeeperDisks.{HasLongDisks, HasSureDisks}
use Rattle.pod_keeper.specs.Kept.{Doubt, certain, entered, checkpointed, entries_in, IsKept}
use Rattle.pod_keeper.specs.KeeperState.{KeeperState, IsCheckpointDue}
use Rattle.pod_reply.specs.Replies.{Reply}
use Rattle.token_table.specs.Credentials.{AskedAgent}

-- the stamp with the greater of its moment and this one, where there is one
abbrev pub later : Stamp → Option Moment → Stamp
later stamp None = stamp
later stamp (Some last) =
    record stamp { moment = record { 0 = max stamp.moment.0 last.0 } }

-- the entry of that reply
pub record IsEntryAtEnd (history : History) (request : Request) (asked : AskedAgent) (stamp : Stamp)
    (entry : Entry) : Type 0 where
  pub reply : Reply
  pub is : IsReplyAtEnd history request asked stamp reply
  pub has : reply.entry ≡ Some entry

-- Where a checkpoint was due, the active journal is on the other disk, in format 2, and holds the
-- history from its end on; else it is the one from before.
pub record MovesWhereDue (history : History) (place new_place : ℕ) (old new : PairState)
    : Type 0 where
  pub due : IsCheckpointDue old → (new_place ≡ end_of history)
      × (new.active ≡ opposite_of old.active)
      × (new.journal.format ≡ 2) × (new.journal.epoch ≡ old.journal.epoch + 1)
  pub kept : (IsCheckpointDue old → ⊥) → (new_place ≡ place) × (new.active ≡ old.active)
      × (new.journal.format ≡ old.journal.format) × (new.journal.epoch ≡ old.journal.epoch)

-- What a failed step leaves. Of the repair, what was in doubt; of a checkpoint or the entry's
-- record, nothing or the checkpoint in doubt; of the entry's gate, the entry.
abbrev pub IsLeftInDoubt : Doubt → Entry → Doubt → Type 0
IsLeftInDoubt doubt entry left = (left ≡ doubt)
    ⊎ ((left ≡ certain) ⊎ ((left ≡ checkpointed) ⊎ (left ≡ entered entry)))

-- The keeper still represents the history, after the write of an entry failed.
pub record IsLeftFaulted {D : Type 0} (image : D → List ℕ → Type 0) (new : KeeperState D)
    (history : History) (place : ℕ) (doubt : Doubt) (entry : Entry) : Type 0 where
  pub new_place : ℕ
  pub left : Doubt
  pub in_doubt : IsLeftInDoubt doubt entry left
  pub kept : IsKept image new history new_place left
  pub at : (new_place ≡ place) ⊎ (new_place ≡ end_of history)

-- there was an entry, and its write failed
abbrev pub IsLeftByEntry : {D : Type 0} → (D → List ℕ → Type 0) → KeeperState D → History → ℕ
    → Doubt → Option Entry → Type 0
IsLeftByEntry image new history place doubt o = (entry : Entry) × (o ≡ Some entry)
    × IsLeftFaulted image new history place doubt entry

module _ {D : Type 0} (image : D → List ℕ → Type 0) (old new : KeeperState D) (history : History)
    (place : ℕ) where
  -- A checkpoint succeeded: the disk that was active is passed over, and has the place of a first
  -- gate.
  abbrev pub IsRenewed : Type 0
  IsRenewed = HasSureDisks image new × HasLongDisks image new

  -- After an entry: the history with it, and nothing in doubt.
  pub record IsGrown (entry : Entry) : Type 0 where
    pub new_place : ℕ
    pub kept : IsKept image new (longer history (entry ∷ [])) new_place certain
    pub moves : MovesWhereDue history place new_place old.pair new.pair
    pub renewed : IsCheckpointDue old.pair → IsRenewed

  -- without an entry nothing changes
  abbrev pub FollowsReply : Option Entry → Type 0
  FollowsReply None = new ≡ old
  FollowsReply (Some entry) = IsGrown entry

  -- A commit that succeeded: the response is that of the reply at the end of the history, and the
  -- reply's entry is on the disks.
  pub record IsCommitted (request : Request) (asked : AskedAgent) (stamp : Stamp)
      (response : Response) (told : ℕ) : Type 0 where
    pub reply : Reply
    pub is : IsReplyAtEnd history request asked stamp reply
    pub response_is : response ≡ reply.response
    pub told_is : told ≡ end_of history
    pub follows : FollowsReply reply.entry

  -- A commit that met a disk fault: the history stays, and the reply at its end has an entry.
  pub record IsCommitFaulted (doubt : Doubt) (request : Request) (asked : AskedAgent)
      (stamp : Stamp) : Type 0 where
    pub entry : Entry
    pub is : IsEntryAtEnd history request asked stamp entry
    pub left : IsLeftFaulted image new history place doubt entry

  -- A checkpoint below epoch 2^63 that succeeded: the active journal is on the other disk, in
  -- format 2, and holds the pod at the end of the history and no entry.
  pub record IsCheckpointed : Type 0 where
    pub kept : IsKept image new history (end_of history) certain
    pub active : new.pair.active ≡ opposite_of old.pair.active
    pub format : new.pair.journal.format ≡ 2
    pub epoch : new.pair.journal.epoch ≡ old.pair.journal.epoch + 1
    pub renewed : IsRenewed

  -- One that met a disk fault: the journal is the one from before.
  pub record IsCheckpointFaulted (doubt : Doubt) : Type 0 where
    pub left : Doubt
    pub in_doubt : (left ≡ doubt) ⊎ ((left ≡ certain) ⊎ (left ≡ checkpointed))
    pub kept : IsKept image new history place left
    pub active : new.pair.active ≡ old.pair.active

module _ {D : Type 0} (moment : D → ℕ) (left_since : D → ℕ → List ℕ → Type 0)
    (old new : KeeperState D) (history : History) where
  -- At each moment since, each pair of crash images represents the history, or it with one of these
  -- entries after its end, and so do those that crashes leave of it while it is opened, however
  -- often; and nothing else was on a disk at any of these moments.
  abbrev pub LeavesPodsOf : List Entry → Type 0
  LeavesPodsOf entries = LeavesTogether moment left_since old.first old.second new.first new.second
      (ThroughOpenings (StandsForOneOf history entries))

  -- The entries are the one in doubt before, and the one under way.
  pub record LeavesPods (doubt : Doubt) (request : Request) (asked : AskedAgent) (stamp : Stamp)
      : Type 0 where
    pub under_way : List Entry
    pub are : All (IsEntryAtEnd history request asked stamp) under_way
    pub leaves : LeavesPodsOf (entries_in doubt ++ under_way)
