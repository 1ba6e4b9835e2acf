-- How `pipe` over a store runs: the store is opened, then agents are known, then it is served.
use Rattle.std.specs.Prelude.{◌≡◌, ◌⊎◌, ℕ, Bool, List, [], Option}
use Rattle.journal_log.specs.declared.fault.OpenFault.{OpenFault}
use Rattle.journal_pair.specs.Doubts.{IsSure}
use Rattle.pod_command.specs.declared.entry.Entry.{Entry}
use Rattle.pod_core.specs.History.{History}
use Rattle.pod_keeper.specs.KeeperRuns.{StandsWith}
use Rattle.pod_keeper.specs.KeeperState.{KeeperState}
use Rattle.pod_keeper.specs.OpenedPods.{IsOpened, OpensDisks}
use Rattle.conn_talk.specs.Agents.{asking_of}
use Rattle.pod_pipe.specs.DiskRuns.{AreOpened, DiskRun}
use Rattle.pod_pipe.specs.RunStreams.{Streams}
use Rattle.pod_pipe.specs.Served.{WritesSession}
use Rattle.pod_io.specs.Writing.{AddsOrPart}
use Rattle.pod_pipe.specs.Statuses.{PipesAndTells, status_of}
use Rattle.pod_pipe.specs.Streams.{AddsReads, CountsInput}
use Rattle.conn_talk.specs.declared.agents.Agents.{Agents}
use Rattle.pod_pipe.specs.declared.status.PipeEnd.{PipeEnd}
use Rattle.pod_records.specs.OpenedStores.{HasPodCause}
use Rattle.journal_log.specs.Refusals.{TellsRefusal, open_status}
use Rattle.pod_pipe.specs.StoredPods.{LeavesKeeper}
use Rattle.pod_pipe.specs.Tables.{HasAgentsCause, IsAsked, IsUnread, TokenSource, table_line}
use Rattle.pod_pipe.specs.Tables.{table_status}
use Rattle.pod_pipe.specs.declared.token_file.TableFault.{TableFault}
use Rattle.pod_pipe.specs.declared.token_file.TableFault.TheVariants.{Line}

-- the line of a faulty line of the token table; of another refusal there is none
abbrev pub fault_line : TableFault → List ℕ
fault_line (Line number) = table_line number
fault_line _ = []

-- The error sink has this line, or a part of it where its count increased, and this is the status.
abbrev pub TellsLine : List ℕ → ℕ → ℕ → Option (List ℕ) → Option (List ℕ) → ℕ → ℕ → Type 0
TellsLine line wanted status old new before after =
    (status ≡ wanted) × AddsOrPart line old new before after

-- nothing was read of the input, and nothing written to the output
pub record IsUnserved (streams : Streams) : Type 0 where
  pub input : streams.new_input ≡ streams.old_input
  pub reads : streams.new_reads ≡ streams.old_reads
  pub output : streams.new_output ≡ streams.old_output

module _ {D : Type 0} (image : D → List ℕ → Type 0) (moment : D → ℕ)
    (left_since : D → ℕ → List ℕ → Type 0) (faults : D → ℕ) (may_give : ℕ → Type 0)
    (by_tokens trail : Bool) where
  -- There was no token table. Nothing was served, and the keeper is as it was.
  pub record IsUntabled (keeper left : KeeperState D) (tokens : TokenSource) (streams : Streams)
      (status : ℕ) : Type 0 where
    pub kept : left ≡ keeper
    pub unserved : IsUnserved streams
    pub fault : TableFault
    pub cause : HasAgentsCause by_tokens fault tokens
    pub table_reads : AddsReads tokens.old_reads tokens.new_reads
    pub tells : TellsLine (fault_line fault) (table_status fault) status streams.old_errors
        streams.new_errors streams.old_error_faults streams.new_error_faults

  -- It was served. For each history that the keeper represented, with an entry in doubt or without,
  -- what was written is the output of a session from its end on, and the keeper has advanced to that
  -- history with the session's entries, item by item.
  pub record IsPiped (keeper left : KeeperState D) (tokens : TokenSource) (streams : Streams)
      (status : ℕ) : Type 0 where
    pub agents : Agents
    pub asked : IsAsked by_tokens keeper.pod.owner agents tokens
    pub table_reads : AddsReads tokens.old_reads tokens.new_reads
    pub end : PipeEnd
    pub status_is : status ≡ status_of end
    pub pipes : (history : History) (doubt : Option Entry) → StandsWith image keeper history doubt
        → PipesAndTells may_give (asking_of agents) trail history
        (LeavesKeeper image moment left_since may_give faults keeper left history doubt) end
        streams.old_input streams.new_input streams.old_output streams.new_output
        streams.old_errors streams.new_errors streams.old_error_faults
        streams.new_error_faults
    pub session : (history : History) (doubt : Option Entry) → StandsWith image keeper history doubt
        → WritesSession may_give (asking_of agents) trail history
        (LeavesKeeper image moment left_since may_give faults keeper left history doubt)
        streams.old_input streams.new_input streams.old_output streams.new_output
    pub counts : CountsInput end streams.old_reads streams.new_reads streams.old_ends
        streams.new_ends

  abbrev pub RunsKeeper : KeeperState D → KeeperState D → TokenSource → Streams → ℕ → Type 0
  RunsKeeper keeper left tokens streams status =
      IsUntabled keeper left tokens streams status
      ⊎ IsPiped keeper left tokens streams status

module _ {D : Type 0} (run : DiskRun D) where
  -- The store wasn't opened, and nothing was served. The token table wasn't read.
  pub record IsRefused (tokens : TokenSource) (streams : Streams) (status : ℕ) : Type 0 where
    pub unserved : IsUnserved streams
    pub unread : IsUnread tokens
    pub fault : OpenFault
    pub cause : HasPodCause (run.content run.old.first) (run.content run.old.second)
        (run.faults run.old.first) (run.faults run.new.first) (run.faults run.old.second)
        (run.faults run.new.second) fault
    pub disks : AreOpened run
    pub status_is : status ≡ open_status fault
    pub tells : TellsRefusal fault streams.old_errors streams.new_errors streams.old_error_faults
        streams.new_error_faults

  module _ (may_give : ℕ → Type 0) (by_tokens trail : Bool) where
    -- It was opened as this keeper, and its disks are those that are left.
    pub record IsRun (tokens : TokenSource) (streams : Streams) (status : ℕ) : Type 0 where
      pub keeper : KeeperState D
      pub left : KeeperState D
      pub bodies : List (List ℕ)
      pub opened : IsOpened run.image (run.content run.old.first) (run.content run.old.second)
          bodies keeper
      pub sure : IsSure run.image keeper.first keeper.second keeper.pair
      pub disks : OpensDisks run.image run.moment run.left_since run.faults run.old.first
          run.old.second keeper.first keeper.second
      pub first_is : run.new.first ≡ left.first
      pub second_is : run.new.second ≡ left.second
      pub runs : RunsKeeper run.image run.moment run.left_since run.faults may_give by_tokens
          trail keeper left tokens streams status

    abbrev pub RunsStore : TokenSource → Streams → ℕ → Type 0
    RunsStore tokens streams status =
        IsRefused tokens streams status ⊎ IsRun tokens streams status
