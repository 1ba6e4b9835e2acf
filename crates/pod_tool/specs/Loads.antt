-- Runs of the load generator.
use Rattle.std.specs.Prelude.{◌≡◌, ◌⊎◌, ℕ, false, List, [], length, take, Option, Some}
use Rattle.pod_io.specs.Writing.{ExtendsBy}
use Rattle.load_generator.specs.Streams.{load_owner, stream}
use Rattle.load_generator.specs.Summaries.{summary_line}
use Rattle.load_generator.specs.declared.requests.TheConstants.{LOAD_MOMENT}
use Rattle.pod_core.specs.History.{History, end_of, pod_at}
use Rattle.pod_core.specs.Session.{Item}
use Rattle.pod_pipe.specs.Served.{disk_faults, out_of_memory_items}
use Rattle.history_laws.specs.Isolated.{grown}
use Rattle.pod_pipe.specs.Statuses.{IsTold, Pipes}
use Rattle.pod_pipe.specs.declared.status.PipeEnd.{PipeEnd}
use Rattle.pod_tool.specs.Fresh.{asking_owner, fresh_history}
use Rattle.pod_pipe.specs.RunStreams.{Streams}

-- the clock of a run is fixed
abbrev pub IsLoadMoment : ℕ → Type 0
IsLoadMoment seconds = seconds ≡ LOAD_MOMENT

-- the history of the pod of a run, before its requests
abbrev pub load_history : History
load_history = fresh_history load_owner LOAD_MOMENT

-- Each request was answered, and the pod after them has so many rows.
pub record AllAnswered (rows : ℕ) (items : List Item) : Type 0 where
  pub no_fault : disk_faults items ≡ 0
  pub no_want : out_of_memory_items items ≡ 0
  pub rows_are : rows ≡ length
      (pod_at (grown load_history items) (end_of (grown load_history items))).rows

-- The requests of the generator were served as a connection of a new pod, each as its owner's, and
-- these bytes were written. None of them ran out of memory.
pub record IsLoaded (requests : ℕ) (written : List ℕ) (rows : ℕ) : Type 0 where
  pub end : PipeEnd
  pub told : IsTold end
  pub left : Option (List ℕ)
  pub trailed : Option (List ℕ)
  pub pipes : Pipes IsLoadMoment (asking_owner load_owner) false load_history (AllAnswered rows) end
      (Some (stream requests)) left (Some []) (Some written) (Some []) trailed

-- the line of that run
pub record IsLoadLine (requests : ℕ) (line : List ℕ) : Type 0 where
  pub written : List ℕ
  pub rows : ℕ
  pub loaded : IsLoaded requests written rows
  pub line_is : line ≡ summary_line requests (length (stream requests)) written rows

module _ (requests : ℕ) (old new : Option (List ℕ)) where
  -- that line was printed
  pub record IsPrinted : Type 0 where
    pub line : List ℕ
    pub is : IsLoadLine requests line
    pub printed : ExtendsBy line old new

  -- a prefix of it was
  pub record IsPrintedInPart : Type 0 where
    pub line : List ℕ
    pub is : IsLoadLine requests line
    pub count : ℕ
    pub printed : ExtendsBy (take count line) old new

  -- What a run of `load` does, by its status: it printed its line, or a prefix of it where a write
  -- failed, or nothing, out of memory.
  abbrev pub PrintsLoad : ℕ → Type 0
  PrintsLoad status = ((status ≡ 0) × IsPrinted) ⊎ (((status ≡ 4) × IsPrintedInPart)
      ⊎ ((status ≡ 7) × (new ≡ old)))

abbrev pub RunsLoad : ℕ → Streams → ℕ → Type 0
RunsLoad requests streams status = PrintsLoad requests streams.old_output streams.new_output status
    × (streams.new_errors ≡ streams.old_errors)
