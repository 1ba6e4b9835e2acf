-- What a run of `podctl` finds, and what it leaves.
use Rattle.std.specs.Prelude.{◌≡◌, ◌⊎◌, ℕ, Option, Some, None, true, false}
use Rattle.pod_disk.specs.declared.place.Place.{Place}
use Rattle.program_words.specs.declared.command.Asking.TheVariants.{ByTokens, Owner, Fresh}
use Rattle.program_words.specs.declared.command.Command.{Command}
use Rattle.program_words.specs.declared.command.Command.TheVariants.{Init, Pipe, Check, Audit, Load}
use Rattle.program_words.specs.declared.command.Command.TheVariants.{Report, Ship, Follow}
use Rattle.podctl_commands.specs.Lines.{report_text}
use Rattle.pod_tool.specs.Follows.{RunsFollow}
use Rattle.pod_tool.specs.Fresh.{RunsFresh}
use Rattle.pod_tool.specs.Loads.{RunsLoad}
use Rattle.pod_tool.specs.Stores.{IsIdle, RunsInit, RunsPrinting, RunsShipping, RunsStored}
use Rattle.pod_tool.specs.Stores.{agent_in}
use Rattle.podctl_commands.specs.Texts.{audit_text, check_text}
use Rattle.pod_pipe.specs.DiskRuns.{DiskRun}
use Rattle.pod_pipe.specs.RunStreams.{Streams}
use Rattle.pod_pipe.specs.Tables.{TokenSource}

-- a command that needs no store, or invalid arguments
abbrev pub NeedsNoStore : Option Command → Type 0
NeedsNoStore (Some (Pipe (Fresh owner) trail)) = Unit {0}
NeedsNoStore (Some (Load requests)) = Unit {0}
NeedsNoStore (Some Follow) = Unit {0}
NeedsNoStore None = Unit {0}
NeedsNoStore _ = ⊥

-- a command other than `pipe` and `follow`, or invalid arguments
abbrev pub NeedsNoInput : Option Command → Type 0
NeedsNoInput (Some (Pipe asking trail)) = ⊥
NeedsNoInput (Some Follow) = ⊥
NeedsNoInput _ = Unit {0}

-- a command other than `pipe` with agents by the token table, or invalid arguments
abbrev pub NeedsNoTokens : Option Command → Type 0
NeedsNoTokens (Some (Pipe ByTokens trail)) = ⊥
NeedsNoTokens _ = Unit {0}

-- a command that prints nothing, or invalid arguments
abbrev pub NeedsNoOutput : Option Command → Type 0
NeedsNoOutput (Some (Init base owner)) = Unit {0}
NeedsNoOutput None = Unit {0}
NeedsNoOutput _ = ⊥

-- what a command doesn't need stays as it was
pub record LeavesUnneeded {D T S K E : Type 0} (command : Option Command)
    (place place_new : Place D T) (input input_new : S) (output output_new : K)
    (errors errors_new : E) : Type 0 where
  pub in_memory : NeedsNoStore command → place_new ≡ place
  pub no_input : NeedsNoInput command → input_new ≡ input
  pub no_output : NeedsNoOutput command → (output_new ≡ output) × (errors_new ≡ errors)
  pub no_tokens : NeedsNoTokens command → place_new.tokens ≡ place.tokens

module _ {D : Type 0} (disks : DiskRun D) (may_give : ℕ → Type 0) where
  -- What the run of each command does. Out of memory before it began, it has done nothing.
  abbrev pub Runs : Command → TokenSource → Streams → ℕ → Type 0
  Runs (Init base owner) tokens streams status = RunsInit disks may_give base owner status
  Runs (Pipe ByTokens trail) tokens streams status =
      RunsStored disks may_give true trail tokens streams status
  Runs (Pipe Owner trail) tokens streams status =
      RunsStored disks may_give false trail tokens streams status
  Runs (Pipe (Fresh owner) trail) tokens streams status =
      ((status ≡ 7) × IsIdle streams) ⊎ RunsFresh may_give owner trail streams status
  Runs Check tokens streams status = RunsPrinting disks check_text streams status
  Runs Audit tokens streams status = RunsPrinting disks audit_text streams status
  Runs (Load requests) tokens streams status = RunsLoad requests streams status
  Runs (Report agent) tokens streams status =
      RunsPrinting disks (report_text (agent_in agent)) streams status
  Runs Ship tokens streams status = RunsShipping disks streams status
  Runs Follow tokens streams status = RunsFollow streams status
