-- How far the holder of the lock has come, and which steps it may make.
use Rattle.std.specs.Prelude.{◌≡◌, Bool, true, false, not, Option, Some, None}
use Rattle.pod_command.specs.declared.entry.Entry.{Entry}
use Rattle.pod_core.specs.KeeperSteps as keeper
use Rattle.pod_core.specs.KeeperSteps.{Holder, KeeperEvent, KeeperView}
use Rattle.request_history.specs.declared.lock_holder_steps.Stage.{Stage}
use Rattle.request_history.specs.declared.lock_holder_steps.Stage.TheVariants as stages
use Rattle.request_history.specs.declared.lock_holder_steps.Step.{Step}
use Rattle.request_history.specs.declared.lock_holder_steps.Step.TheVariants as steps

-- the phase of a holder that has come so far
abbrev pub phase_of : Option Holder → Stage → keeper.Phase
phase_of None stage = keeper.free
phase_of (Some holder) stages.Taken = keeper.taken holder
phase_of (Some holder) stages.Written = keeper.written holder
phase_of (Some holder) stages.Opened = keeper.opened holder

-- ---- as the keeper's view has it

-- The holder of the lock may make the step.
abbrev pub MayStep : KeeperView → Step → Type 0
MayStep view steps.Repair = (holder : Holder) × (view.phase ≡ keeper.taken holder)
    × ((entry : Entry) × (view.doubt ≡ Some entry))
MayStep view steps.Body = (holder : Holder) × (view.phase ≡ keeper.taken holder)
    × (view.doubt ≡ None)
MayStep view steps.Gate = (holder : Holder) × (view.phase ≡ keeper.written holder)

abbrev pub step_event : Step → Bool → KeeperEvent
step_event steps.Repair ok = keeper.repair ok
step_event steps.Body ok = keeper.body ok
step_event steps.Gate ok = keeper.gate ok

-- The gate of the holder's record is open.
abbrev pub IsOpened : keeper.Phase → Type 0
IsOpened phase = (holder : Holder) × (phase ≡ keeper.opened holder)

-- ---- the same as tests

abbrev pub opened_stage : Stage → Bool
opened_stage stages.Taken = false
opened_stage stages.Written = false
opened_stage stages.Opened = true

abbrev pub is_opened : Bool → Stage → Bool
is_opened false stage = false
is_opened true stage = opened_stage stage

abbrev pub may_when_taken : Bool → Step → Bool
may_when_taken doubtful steps.Repair = doubtful
may_when_taken doubtful steps.Body = not doubtful
may_when_taken doubtful steps.Gate = false

abbrev pub may_when_written : Step → Bool
may_when_written steps.Repair = false
may_when_written steps.Body = false
may_when_written steps.Gate = true

abbrev pub may_stage : Stage → Bool → Step → Bool
may_stage stages.Taken doubtful step = may_when_taken doubtful step
may_stage stages.Written doubtful step = may_when_written step
may_stage stages.Opened doubtful step = false

abbrev pub may_now : Bool → Stage → Bool → Step → Bool
may_now false stage doubtful step = false
may_now true stage doubtful step = may_stage stage doubtful step
