-- What a follower over streams is after frames of one history.
use Rattle.std.specs.Prelude.{◌≡◌, ℕ, List, [], ◌∷◌, ◌++◌, Contains, Option, Some, None}
use Rattle.pod_base.specs.declared.agent.Agent.{Agent}
use Rattle.pod_base.specs.declared.moment.Moment.{Moment}
use Rattle.pod_base.specs.declared.request.Request.{Request}
use Rattle.pod_command.specs.declared.entry.Entry.{Entry}
use Rattle.pod_command.specs.declared.snapshot.Snapshot.{Snapshot}
use Rattle.pod_core.specs.History.{History, IsHistory, IsPlace, pod_at}
use Rattle.pod_follow.specs.Followed.{IsEntryText}
use Rattle.pod_follow.specs.Prefixes.{IsFollowedPrefix, state_at}
use Rattle.pod_records.specs.Readings.{IsSnapshotOf}
use Rattle.pod_rows.specs.State.{NumberedPod}
use Rattle.pod_rows.specs.WellFormed.{pod_of}
use Rattle.podctl_commands.specs.Following.{Follows, FollowsAll}
use Rattle.podctl_commands.specs.Reads.{IsRead, IsReadText}

-- the body of a frame is the snapshot of a place of a history
pub record IsPlaceText (history : History) (place : ℕ) (body : List ℕ) : Type 0 where
  pub snapshot : Snapshot
  pub is : IsSnapshotOf body snapshot
  pub pod : pod_of snapshot ≡ pod_at history place
  pub number : snapshot.seq ≡ place
  pub there : IsPlace history place

-- the body of a frame is a read
pub record IsSomeRead (body : List ℕ) : Type 0 where
  pub agent : Agent
  pub moment : Moment
  pub request : Request
  pub is : IsRead body agent moment request

-- Of these bodies each is an entry of the history, or a read.
abbrev pub AreSentSince : History → List (List ℕ) → List (Option Entry) → Type 0
AreSentSince history [] [] = Unit {0}
AreSentSince history (body ∷ bodies) (Some entry ∷ sent) =
    IsEntryText body entry × Contains history.entries entry × AreSentSince history bodies sent
AreSentSince history (body ∷ bodies) (None ∷ sent) =
    IsSomeRead body × AreSentSince history bodies sent
AreSentSince history _ _ = ⊥

-- the numbers of the entries among them, in their order
abbrev pub numbers_of : List (Option Entry) → List ℕ
numbers_of [] = []
numbers_of (Some entry ∷ sent) = entry.seq ∷ numbers_of sent
numbers_of (None ∷ sent) = numbers_of sent

-- After frames of which the last snapshot is that of a place of a history, and those since are
-- entries of the history and reads, whatever was lost, repeated or came late, the follower has the
-- pod of a place of the history: that to which the numbers of these entries run on.
abbrev pub FollowsHistory : Type 0
FollowsHistory =
    (history : History) (start : ℕ) (body : List ℕ) (front back : List (List ℕ))
    (sent : List (Option Entry)) (text : List ℕ) (state : Option NumberedPod)
    → IsHistory history → IsPlaceText history start body → AreSentSince history back sent
    → FollowsAll None (front ++ body ∷ back) text state
    → (place : ℕ) × IsFollowedPrefix start (numbers_of sent) place × IsPlace history place
    × (state ≡ Some (state_at history place))

-- And the response to a read that comes next is that of the pod of that place.
abbrev pub AnswersAtPlace : Type 0
AnswersAtPlace =
    (history : History) (start : ℕ) (body : List ℕ) (front back : List (List ℕ))
    (sent : List (Option Entry)) (text : List ℕ) (state : Option NumberedPod)
    (read answer : List ℕ) (after : Option NumberedPod)
    → IsHistory history → IsPlaceText history start body → AreSentSince history back sent
    → FollowsAll None (front ++ body ∷ back) text state
    → IsSomeRead read → Follows state read answer after
    → (place : ℕ) × IsFollowedPrefix start (numbers_of sent) place × IsPlace history place
    × IsReadText (state_at history place) read answer
