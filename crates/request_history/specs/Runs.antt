-- What holds of a world that took a list of events.
use Rattle.std.specs.Prelude.{◌≡◌, ◌⊎◌, ℕ, Bool, List, [], ◌∷◌, ◌++◌, map}
use Rattle.pod_command.specs.declared.snapshot.Snapshot.{Snapshot}
use Rattle.pod_core.specs.History.{History}
use Rattle.pod_core.specs.World as world
use Rattle.pod_core.specs.World.{WorldRun, WorldStep, first_world}
use Rattle.pod_rows.specs.WellFormed.{IsWellFormedSnapshot}
use Rattle.token_table.specs.declared.table_line.TokenEntry.{TokenEntry}
use Rattle.request_history.specs.Keepers.{first_history}
use Rattle.request_history.specs.Worlds.{Steps, StepsStorable, any_second, asking_of, event_of}
use Rattle.request_history.specs.Worlds.{world_of}
use Rattle.request_history.specs.declared.event.Event.{Event}
use Rattle.request_history.specs.declared.parts_and_events.Parts.{Parts}
use Rattle.world_laws.specs.CrashedWorlds.{AppendsStorable, ImageStandsFor, ImageStandsForMore}
use Rattle.world_laws.specs.CrashedWorlds.{IsRecordableHistory}

-- It began as the first world of a history, and took these events with these tokens. Each entry
-- whose record it wrote has a stored form.
pub record HasTaken (history : History) (numbers : ℕ → Bool) (tokens : List TokenEntry)
    (events : List Event) (parts : Parts) : Type 0 where
  pub run : WorldRun any_second (asking_of tokens) (first_world history numbers)
      (map event_of events) (world_of parts)
  pub storable : AppendsStorable any_second (asking_of tokens) (first_world history numbers)
      (map event_of events) (world_of parts) run

-- A world begins without events, and takes one more by each step.
abbrev pub BeginsWithNone : Type 0
BeginsWithNone = (history : History) (numbers : ℕ → Bool) (tokens : List TokenEntry)
    (parts : Parts) → world_of parts ≡ first_world history numbers
    → HasTaken history numbers tokens [] parts

abbrev pub TakesOneMore : Type 0
TakesOneMore = (history : History) (numbers : ℕ → Bool) (events : List Event) (event : Event)
    (old new : Parts) → HasTaken history numbers old.tokens events old
    → Steps old (event_of event) new → StepsStorable old (event_of event) new
    → HasTaken history numbers old.tokens (events ++ event ∷ []) new

-- Each image with which a world may stop that began with a pod that a journal can hold, and took
-- these events, stands for its history, or for that with one entry more.
abbrev pub TakenStopsStand : Type 0
TakenStopsStand = (first : Snapshot) (numbers : ℕ → Bool) (tokens : List TokenEntry)
    (events : List Event) (parts : Parts) (image : List ℕ) (stopped : world.World)
    → IsWellFormedSnapshot first → IsRecordableHistory (first_history first)
    → HasTaken (first_history first) numbers tokens events parts
    → WorldStep any_second (asking_of parts.tokens) (world_of parts) (world.stop image) stopped
    → ImageStandsFor parts.keeper.history image ⊎ ImageStandsForMore (world_of parts) image
