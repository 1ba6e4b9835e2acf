-- A world as a value: the definition's world that it is, and the definition's event of each event.
use Rattle.std.specs.Prelude.{◌≡◌, ℕ, zero, suc, ◌&&◌, Bool, nat_lt, nat_le, List, Option, None}
use Rattle.std.specs.Prelude.{slice_get}
use Rattle.pod_base.specs.declared.request.Request.{Request}
use Rattle.pod_core.specs.World as world
use Rattle.token_table.specs.Credentials.{AskedAgent, asked_of}
use Rattle.token_table.specs.declared.table_line.TokenEntry.{TokenEntry}
use Rattle.request_history.specs.declared.event.Event.{Event}
use Rattle.request_history.specs.declared.event.Event.TheVariants as events
use Rattle.request_history.specs.declared.lock_holder_steps.Step.{Step}
use Rattle.request_history.specs.declared.lock_holder_steps.Step.TheVariants as steps
use Rattle.request_history.specs.declared.parts_and_events.Parts.{Parts}
use Rattle.world_laws.specs.CrashedWorlds.{WritesStorable}

-- The clock may give any moment.
abbrev pub any_second : ℕ → Type 0
any_second seconds = Unit {0}

-- A request is authenticated by the table.
abbrev pub asking_of : List TokenEntry → Request → AskedAgent
asking_of tokens request = asked_of tokens request.fields

-- The event of the definition. Its connections are numbered from 1.
abbrev pub event_of : Event → world.Event
event_of (events.Arrive conn piece) = world.arrive (suc conn) piece
event_of (events.Look conn place moment) = world.look (suc conn) place moment.0
event_of (events.Take conn moment) = world.take (suc conn) moment.0
event_of (events.Repair ok) = world.repair ok
event_of (events.Body ok) = world.body ok
event_of (events.Gate ok) = world.gate ok
event_of events.Publish = world.publish
event_of (events.Stop image) = world.stop image

-- the event of a step of the holder of the lock
abbrev pub holder_event : Step → Bool → world.Event
holder_event steps.Repair ok = world.repair ok
holder_event steps.Body ok = world.body ok
holder_event steps.Gate ok = world.gate ok

-- connections, numbered from 1
abbrev pub numbered : List world.Connection → ℕ → Option world.Connection
numbered connections zero = None
numbered connections (suc place) = slice_get connections place

-- the numbers of so many connections
abbrev pub numbers_to : ℕ → ℕ → Bool
numbers_to count number = nat_lt 0 number && nat_le number count

-- the world of the definition
abbrev pub world_of : Parts → world.World
world_of parts = record {
  keeper = parts.keeper;
  published = parts.published;
  connections = numbered parts.connections.items;
  stopped = parts.stopped;
}

-- By the event the world becomes this one.
abbrev pub Steps : Parts → world.Event → Parts → Type 0
Steps old event new =
    world.WorldStep any_second (asking_of old.tokens) (world_of old) event (world_of new)

-- Where the step writes the record of an entry, the entry has a stored form.
abbrev pub StepsStorable : Parts → world.Event → Parts → Type 0
StepsStorable old event new = (step : Steps old event new)
    → WritesStorable any_second (asking_of old.tokens) (world_of old) event step.done step.does

-- By the event it becomes no world.
abbrev pub HasNoStep : Parts → world.Event → Type 0
HasNoStep old event = (new : world.World)
    → world.WorldStep any_second (asking_of old.tokens) (world_of old) event new → ⊥
