-- What a change comes to, before a disk is written.
use Rattle.std.specs.Prelude.{◌≡◌, ℕ, List, Option, Some, None, IfSome, IsSome}
use Rattle.std.specs.Arc.{arc_value}
use Rattle.pod_base.specs.declared.moment.Stamp.{Stamp}
use Rattle.pod_base.specs.declared.request.Request.{Request}
use Rattle.pod_command.specs.Bare.{bare_entry}
use Rattle.stored_forms.specs.Storable.{IsStorable}
use Rattle.stored_forms.specs.StoredForms.{entry_bytes}
use Rattle.pod_command.specs.declared.entry.Entry.{Entry}
use Rattle.pod_core.specs.History.{History}
use Rattle.pod_core.specs.KeeperSteps.{stamp_at_end, IsReplyAtEnd}
use Rattle.pod_keeper.specs.Commits.{later}
use Rattle.pod_keeper.specs.Kept.{Doubt, IsKept}
use Rattle.pod_keeper.specs.KeeperState.{KeeperState, version_in, IsCheckpointDue}
use Rattle.pod_keeper.specs.declared.plan.Plan.{Plan}
use Rattle.pod_keeper.specs.declared.plan.Planned.{Planned}
use Rattle.pod_pages.specs.State.{state_after}
use Rattle.pod_records.specs.Records.{IsSnapshotText}
use Rattle.pod_reply.specs.Replies.{Reply}
use Rattle.pod_reply.specs.Reply.{IsReply}
use Rattle.pod_rows.specs.Apply.{Applies}
use Rattle.reply_laws.specs.Laws.{IsNoFailure}
use Rattle.reply_laws.specs.Sent.{IsSent}
use Rattle.token_table.specs.Credentials.{AskedAgent}

-- the planned entry, where there is one; the spare capacity of its lists doesn't count
abbrev pub planned_entry : Option Planned → Option Entry
planned_entry None = None
planned_entry (Some planned) = Some (bare_entry planned.entry)

-- What was planned can be carried out: the entry applies to the keeper's pod, the version is the
-- one after it, and the records are that of the entry, and, exactly where a checkpoint is due, that
-- of a snapshot of the pod before it.
pub record IsPlannedAt {D : Type 0} (keeper : KeeperState D) (planned : Planned) : Type 0 where
  pub applies : Applies keeper.pod keeper.next planned.entry
  pub after : arc_value planned.version ≡ state_after (version_in keeper) planned.entry
  pub storable : IsStorable planned.entry
  pub body_is : planned.body ≡ entry_bytes planned.entry
  pub snapshot_is : IfSome planned.snapshot (IsSnapshotText keeper.pod keeper.next)
  pub due : IsSome planned.snapshot → IsCheckpointDue keeper.pair
  pub not_due : planned.snapshot ≡ None → IsCheckpointDue keeper.pair → ⊥

-- The answer to a change: there is one reply, which for each history that the keeper represents is
-- the reply at its end. Its response can be written and is no server error, and its entry, where it
-- has one, is planned.
pub record IsPlan {D : Type 0} (image : D → List ℕ → Type 0) (keeper : KeeperState D)
    (request : Request) (asked : AskedAgent) (stamp : Stamp) (plan : Plan) : Type 0 where
  pub reply : Reply
  pub reply_is : IsReply keeper.pod request asked keeper.next (later stamp keeper.last) reply
  pub at_end : (history : History) (place : ℕ) (doubt : Doubt)
      → IsKept image keeper history place doubt → IsReplyAtEnd history request asked stamp reply
  pub response_is : plan.answer.response ≡ reply.response
  pub place_is : plan.answer.place ≡ keeper.next
  pub moment_is : plan.answer.moment ≡ (later stamp keeper.last).moment
  pub moment_at_end : (history : History) (place : ℕ) (doubt : Doubt)
      → IsKept image keeper history place doubt → plan.answer.moment ≡ (stamp_at_end history stamp).moment
  pub entry_is : planned_entry plan.next ≡ reply.entry
  pub planned : IfSome plan.next (IsPlannedAt keeper)
  pub sent : IsSent plan.answer.response
  pub status : IsNoFailure plan.answer.response.status
