-- What a store's lock protects, and what its holder does.
use Rattle.std.specs.Prelude.{◌≡◌, ℕ, ◌+◌, List, ◌++◌, length, IfSome, Option}
use Rattle.std.specs.Option.{option_to_list}
use mathlib.Core.List.{IsPrefix}
use Rattle.pod_base.specs.declared.moment.Stamp.{Stamp}
use Rattle.pod_base.specs.declared.request.Request.{Request}
use Rattle.pod_base.specs.declared.response.Response.{Response}
use Rattle.pod_command.specs.declared.entry.Entry.{Entry}
use Rattle.pod_core.specs.History.{History, longer}
use Rattle.pod_core.specs.KeeperSteps.{IsReplyAtEnd}
use Rattle.pod_keeper.specs.Kept.{Doubt, IsKept, StandsForSome}
use Rattle.pod_keeper.specs.KeeperState.{KeeperState, version_in}
use Rattle.pod_keeper.specs.Plans.{IsPlannedAt, planned_entry}
use Rattle.pod_keeper.specs.declared.plan.Plan.{Plan}
use Rattle.pod_live.specs.Stores.{KeptSome, IsSafe, Covers}
use Rattle.pod_live.specs.Visits.{Visit, RepliesAtEnd, IsMomentAtEnd}
use Rattle.pod_live.specs.WorldEvents.{IsChange}
use Rattle.pod_pages.specs.State.{VersionState, states_after}
use Rattle.pod_reply.specs.Replies.{Reply}
use Rattle.reply_laws.specs.Laws.{IsNoFailure}
use Rattle.reply_laws.specs.Sent.{IsSent}
use Rattle.token_table.specs.Credentials.{AskedAgent}

-- the keeper, the entries that are published, and the totals of the two ledgers
pub record LockState (D : Type 0) : Type 0 where
  pub keeper : KeeperState D
  pub list : List Entry
  pub changes : ℕ
  pub faults : ℕ

-- The keeper represents each history that was kept, with the published entries. The list has grown
-- by the booked changes, and each booked fault was counted by a disk.
pub record IsBooked {D : Type 0} (image : D → List ℕ → Type 0) (count : D → ℕ)
    (kept : History → Type 0) (safe : Type 0) (opened : VersionState) (opening : List Entry)
    (counted : ℕ) (state : LockState D) : Type 0 where
  pub stands : (history : History) → kept history
      → KeptSome image state.keeper (longer history state.list)
  pub some : StandsForSome image state.keeper
  pub still_safe : safe → IsSafe image state.keeper
  pub version : version_in state.keeper ≡ states_after opened state.list
  pub grown : length state.list ≡ length opening + state.changes
  pub covers : Covers counted state.faults (count state.keeper.first) (count state.keeper.second)

-- One reply is that at the end of each history that the keeper represents, and it has this entry,
-- where there is one.
pub record PlansEntry {D : Type 0} (image : D → List ℕ → Type 0) (keeper : KeeperState D)
    (request : Request) (asked : AskedAgent) (stamp : Stamp) (entry : Option Entry) : Type 0 where
  pub reply : Reply
  pub entry_is : entry ≡ reply.entry
  pub at_end : (history : History) (place : ℕ) (doubt : Doubt)
      → IsKept image keeper history place doubt → IsReplyAtEnd history request asked stamp reply

-- What a change comes to under the lock, with these entries published: one reply is that at the end
-- of each history that was kept, with these entries.
pub record IsPlannedHere {D : Type 0} (image : D → List ℕ → Type 0) (kept : History → Type 0)
    (first : ℕ) (list : List Entry) (keeper : KeeperState D) (request : Request)
    (asked : AskedAgent) (stamp : Stamp) (plan : Plan) : Type 0 where
  pub reply : Reply
  pub replies : RepliesAtEnd kept list request asked stamp reply
  pub events : IsChange kept list request asked stamp reply
  pub response_is : plan.answer.response ≡ reply.response
  pub place_is : plan.answer.place ≡ first + length list
  pub moment_is : IsMomentAtEnd kept list stamp plan.answer.moment.0
  pub entry_is : planned_entry plan.next ≡ reply.entry
  pub plans : PlansEntry image keeper request asked stamp (planned_entry plan.next)
  pub planned : IfSome plan.next (IsPlannedAt keeper)
  pub sent : IsSent plan.answer.response
  pub status : IsNoFailure plan.answer.response.status

-- A change was decided by one list of entries, of which what the session had seen is a prefix. The
-- session was told of that list with the answer's entry, and has made no look.
pub record Decided (kept : History → Type 0) (first : ℕ) (old : Visit) (request : Request)
    (asked : AskedAgent) (stamp : Stamp) (response : Response) (place moment : ℕ) (new : Visit)
    : Type 0 where
  pub entries : List Entry
  pub reply : Reply
  pub replies : RepliesAtEnd kept entries request asked stamp reply
  pub events : IsChange kept entries request asked stamp reply
  pub response_is : response ≡ reply.response
  pub place_is : place ≡ first + length entries
  pub moment_is : IsMomentAtEnd kept entries stamp moment
  pub after_seen : IsPrefix old.seen entries
  pub then_told : IsPrefix (entries ++ option_to_list reply.entry) new.told
  pub growth : new.changes ≡ old.changes + length (option_to_list reply.entry)
  pub seen : new.seen ≡ old.seen
  pub looks : new.looks ≡ old.looks
  pub refused : new.refused ≡ old.refused
  pub faults : new.faults ≡ old.faults
