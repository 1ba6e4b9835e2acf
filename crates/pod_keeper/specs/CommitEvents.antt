-- A commit as steps of a world: which events it is, and what its keeper represents after them.
use Rattle.std.specs.Prelude.{◌≡◌, ℕ, true, false, List, [], ◌∷◌, ◌++◌, Option, Some, None}
use Rattle.pod_base.specs.declared.moment.Stamp.{Stamp}
use Rattle.pod_base.specs.declared.request.Request.{Request}
use Rattle.pod_base.specs.declared.response.Response.{Response}
use Rattle.pod_command.specs.declared.entry.Entry.{Entry}
use Rattle.pod_core.specs.History.{History}
use Rattle.pod_core.specs.KeeperSteps.{KeeperView, KeeperEvent, KeeperRun, free, take, repair, body}
use Rattle.pod_core.specs.KeeperSteps.{gate}
use Rattle.pod_keeper.specs.KeeperState.{KeeperState}
use Rattle.pod_keeper.specs.Kept.{Doubt, certain, entered, checkpointed, IsKept}
use Rattle.pod_reply.specs.Replies.{Reply}
use Rattle.token_table.specs.Credentials.{AskedAgent}

-- The entry in doubt, where there is one. A checkpoint in doubt holds the same history.
abbrev pub entry_in_doubt : Doubt → Option Entry
entry_in_doubt certain = None
entry_in_doubt (entered entry) = Some entry
entry_in_doubt checkpointed = None

-- what a world has of a keeper before a commit: nobody holds the lock
abbrev pub view_of : History → Doubt → KeeperView
view_of history doubt =
    record { history = history; doubt = entry_in_doubt doubt; phase = free }

-- The keeper represents the history of such a part of a world, and the entry in doubt is the one
-- that may be on its disks.
pub record StandsForView {D : Type 0} (image : D → List ℕ → Type 0) (keeper : KeeperState D)
    (view : KeeperView) : Type 0 where
  pub place : ℕ
  pub doubt : Doubt
  pub kept : IsKept image keeper view.history place doubt
  pub doubt_is : view.doubt ≡ entry_in_doubt doubt

-- ---- the events of a commit

-- the repair of an entry in doubt
abbrev pub repair_events : Doubt → List KeeperEvent
repair_events certain = []
repair_events (entered entry) = repair true ∷ []
repair_events checkpointed = []

-- Of one that succeeded: the change is taken, and where its reply has an entry, an entry in doubt
-- is repaired, the record is written, and its gate is opened.
abbrev pub events_done : Doubt → KeeperEvent → Option Entry → List KeeperEvent
events_done doubt taking None = taking ∷ []
events_done doubt taking (Some entry) = taking ∷ (repair_events doubt ++ (body true ∷ gate true ∷ []))

-- The step at which a disk failed. The body has the checkpoint that is made before it, and the
-- closing of a gate of a checkpoint in doubt.
pub data FailedStep : Type 0 where
  at_repair : FailedStep
  at_body : FailedStep
  at_gate : FailedStep

-- Of one that failed there.
abbrev pub events_failed : Doubt → KeeperEvent → FailedStep → List KeeperEvent
events_failed doubt taking at_repair = taking ∷ repair false ∷ []
events_failed doubt taking at_body = taking ∷ (repair_events doubt ++ (body false ∷ []))
events_failed doubt taking at_gate = taking ∷ (repair_events doubt ++ (body true ∷ gate false ∷ []))

module _ {D : Type 0} (image : D → List ℕ → Type 0) (new : KeeperState D) (history : History)
    (doubt : Doubt) (request : Request) (asked : AskedAgent) (stamp : Stamp) where
  -- A commit that succeeded: by its events the world comes to what the keeper represents, and the
  -- response is that of the reply which was taken.
  pub record IsDoneByEvents (response : Response) : Type 0 where
    pub reply : Reply
    pub response_is : response ≡ reply.response
    pub after : KeeperView
    pub run : KeeperRun (view_of history doubt)
        (events_done doubt (take request asked stamp reply) reply.entry) after
    pub stands : StandsForView image new after

  -- A commit that met a disk fault: one of its steps failed, and by the events up to it the world
  -- comes to what the keeper represents.
  pub record IsFailedByEvents : Type 0 where
    pub reply : Reply
    pub step : FailedStep
    pub after : KeeperView
    pub run : KeeperRun (view_of history doubt)
        (events_failed doubt (take request asked stamp reply) step) after
    pub stands : StandsForView image new after
