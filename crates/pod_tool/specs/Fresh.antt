-- A new pod in memory.
use Rattle.std.specs.Prelude.{◌≡◌, ℕ, Bool, List, [], codes}
use Rattle.pod_rows.specs.FirstPods.{first_pod}
use Rattle.pod_base.specs.declared.request.Request.{Request}
use Rattle.pod_core.specs.History.{History}
use Rattle.pod_core.specs.Session.{IsClockMoment, Item}
use Rattle.pod_pipe.specs.Served.{WritesSession, disk_faults}
use Rattle.pod_pipe.specs.Statuses.{PipesAndTells, status_of}
use Rattle.pod_pipe.specs.Streams.{CountsInput}
use Rattle.pod_pipe.specs.declared.status.PipeEnd.{PipeEnd}
use Rattle.pod_pipe.specs.RunStreams.{Streams}
use Rattle.token_table.specs.Credentials.{AskedAgent, known}

-- the base of a pod in memory
abbrev pub fresh_base : List ℕ
fresh_base = codes "http://127.0.0.1:8080/"

-- the history of a new pod of that owner, whose rows have that moment, in seconds since 1970
abbrev pub fresh_history : List ℕ → ℕ → History
fresh_history owner made =
    record { first = first_pod fresh_base owner (record { 0 = made }); start = 0; entries = [] }

-- every request is the owner's, whatever its fields are
abbrev pub asking_owner : List ℕ → Request → AskedAgent
asking_owner owner request = known owner

-- no item met a disk fault
abbrev pub MeetsNoDisk : List Item → Type 0
MeetsNoDisk items = disk_faults items ≡ 0

-- What a run of `pipe --fresh` reads, writes and reports: what a connection of a new pod does,
-- whose rows have a moment of the clock.
pub record RunsFresh (may_give : ℕ → Type 0) (owner : List ℕ) (trail : Bool) (streams : Streams)
    (status : ℕ) : Type 0 where
  pub end : PipeEnd
  pub status_is : status ≡ status_of end
  pub made : ℕ
  pub clock : IsClockMoment may_give made
  pub pipes : PipesAndTells may_give (asking_owner owner) trail (fresh_history owner made)
      MeetsNoDisk end streams.old_input streams.new_input streams.old_output streams.new_output
      streams.old_errors streams.new_errors streams.old_error_faults streams.new_error_faults
  pub session : WritesSession may_give (asking_owner owner) trail (fresh_history owner made)
      MeetsNoDisk streams.old_input streams.new_input streams.old_output streams.new_output
  pub counts : CountsInput end streams.old_reads streams.new_reads streams.old_ends streams.new_ends
