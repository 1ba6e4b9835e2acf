-- What holds of the parts of a world, and what becomes of them by an event.
use Rattle.std.specs.Prelude.{◌≡◌, ◌<◌, ◌≤◌, ℕ, suc, true, List, length, Result, Ok, Err, Option}
use Rattle.std.specs.Prelude.{Some, None, IfSome, slice_get, slice_set}
use Rattle.std.specs.List.{AllByRecursion}
use Rattle.pod_base.specs.declared.heard.Heard.{Heard}
use Rattle.pod_base.specs.declared.heard.Heard.TheVariants as heard
use Rattle.stored_forms.specs.Storable.{IsStorable}
use Rattle.pod_core.specs.History.{end_of}
use Rattle.pod_core.specs.KeeperSteps as keeper
use Rattle.pod_core.specs.KeeperSteps.{Holder}
use Rattle.pod_core.specs.Session.{IsClockMoment, disk_fault}
use Rattle.pod_core.specs.World as world
use Rattle.pod_core.specs.World.{holder_in}
use Rattle.reply_laws.specs.Granted.{is_change}
use Rattle.request_history.specs.Connections.{Rests, SettlesTo}
use Rattle.request_history.specs.Worlds.{HasNoStep, Steps, any_second, asking_of, numbered}
use Rattle.request_history.specs.Worlds.{world_of}
use Rattle.request_history.specs.Reads.{TakesAs}
use Rattle.request_history.specs.declared.next_change.Change.{Change}
use Rattle.request_history.specs.declared.next_change.Change.TheVariants as outcomes
use Rattle.request_history.specs.declared.event.StepFault.{StepFault}
use Rattle.request_history.specs.declared.event.StepFault.TheVariants as faults
use Rattle.request_history.specs.declared.parts_and_events.Parts.{Parts}
use Rattle.request_history.specs.declared.parts_and_events.Replaced.{Replaced}

-- ---- what holds of them

-- The change of the holder of the lock is next on its connection, and its entry has a stored form.
pub record HoldsNext (connections : List world.Connection) (holder : Holder) : Type 0 where
  pub connection : world.Connection
  pub is_there : numbered connections holder.conn ≡ Some connection
  pub next : world.IsNextEvent connection (heard.Request holder.item.request)
  pub changes : is_change holder.item.request.method ≡ true
  pub storable : IsStorable holder.entry

-- The connection has seen no place before this one.
abbrev pub HasSeen : ℕ → world.Connection → Type 0
HasSeen start connection = start ≤ connection.seen

-- No more is published than the history has; no connection has seen a place before the first one,
-- and none has an interim to write.
pub record IsWorld (parts : Parts) : Type 0 where
  pub published : parts.published ≤ end_of parts.keeper.history
  pub seen : AllByRecursion (HasSeen parts.keeper.history.start) parts.connections.items
  pub rests : AllByRecursion Rests parts.connections.items
  pub holds : IfSome (holder_in parts.keeper.phase) (HoldsNext parts.connections.items)

-- ---- what becomes of them

-- It took the event.
pub record TookEvent (old : Parts) (event : world.Event) (new : Parts) : Type 0 where
  pub fine : IsWorld new
  pub tokens : new.tokens ≡ old.tokens
  pub steps : Steps old event new

abbrev pub Refuses : StepFault → Parts → world.Event → Type 0
Refuses faults.NotNow old event = HasNoStep old event
Refuses faults.NoMemory old event = Unit {0}

-- It took the event; or it has no such step, or memory ran out, and it is as before.
abbrev pub CameTo : {T : Type 0} → Result T StepFault → Parts → world.Event → Parts → Type 0
CameTo (Ok done) old event new = TookEvent old event new
CameTo (Err fault) old event new = (new ≡ old) × Refuses fault old event

-- ---- one connection is replaced

-- the connections with this one
abbrev pub with_new : Parts → ℕ → world.Connection → List world.Connection
with_new parts conn new = slice_set parts.connections.items conn new

-- By the event it becomes the world with this connection.
pub record Replaces (parts : Parts) (event : world.Event) (conn : ℕ) (new : world.Connection)
    : Type 0 where
  pub within : conn < length parts.connections.items
  pub seen : HasSeen parts.keeper.history.start new
  pub rests : Rests new
  pub holds : IfSome (holder_in parts.keeper.phase) (HoldsNext (with_new parts conn new))
  pub steps : world.WorldStep any_second (asking_of parts.tokens) (world_of parts) event
      (record (world_of parts) { connections = numbered (with_new parts conn new) })

abbrev pub ReplacesIfAny : Parts → world.Event → ℕ → Option world.Connection → Type 0
ReplacesIfAny parts event conn None = HasNoStep parts event
ReplacesIfAny parts event conn (Some new) = Replaces parts event conn new

-- ---- the holder of the lock is answered

-- This connection is that of the holder of the lock, after the item's answer.
pub record AnswersHolder (parts : Parts) (answer : Holder → world.Connection → world.Connection)
    (at : ℕ) (new : world.Connection) : Type 0 where
  pub holder : Holder
  pub held : holder_in parts.keeper.phase ≡ Some holder
  pub number : suc at ≡ holder.conn
  pub from : world.Connection
  pub is_there : slice_get parts.connections.items at ≡ Some from
  pub settled : SettlesTo (answer holder from) new

-- The change met a disk fault.
abbrev pub faulted : Holder → world.Connection → world.Connection
faulted holder from =
    world.with_answer from (record holder.item { outcome = disk_fault }) from.seen

abbrev pub IsFaulted : Parts → Replaced → Type 0
IsFaulted parts replaced = AnswersHolder parts faulted replaced.at replaced.connection

-- The change is answered at the end of the history.
abbrev pub finished : ℕ → Holder → world.Connection → world.Connection
finished end holder from = world.with_answer from holder.item end

abbrev pub IsFinished : Parts → Replaced → Type 0
IsFinished parts replaced = AnswersHolder parts (finished (end_of parts.keeper.history)) replaced.at
    replaced.connection

-- ---- a change takes the lock

-- The connection has a next event.
pub record IsReady (parts : Parts) (conn : ℕ) : Type 0 where
  pub from : world.Connection
  pub is_there : slice_get parts.connections.items conn ≡ Some from
  pub event : Heard
  pub next : world.IsNextEvent from event

-- The connection's change takes the lock, and becomes this.
pub record TakesLock (parts : Parts) (conn moment : ℕ) (change : Change) : Type 0 where
  pub from : world.Connection
  pub is_there : slice_get parts.connections.items conn ≡ Some from
  pub is_free : parts.keeper.phase ≡ keeper.free
  pub clock : IsClockMoment any_second moment
  pub takes : TakesAs (asking_of parts.tokens) parts.keeper.history (suc conn) moment from change

abbrev pub TakesIfAny : Parts → ℕ → ℕ → Change → Type 0
TakesIfAny parts conn moment outcomes.Stays = HasNoStep parts (world.take (suc conn) moment)
TakesIfAny parts conn moment (outcomes.Held holder) =
    TakesLock parts conn moment (outcomes.Held holder)
TakesIfAny parts conn moment (outcomes.Answered answer) =
    TakesLock parts conn moment (outcomes.Answered answer)
