-- Commands over the two disks of a store.
use Rattle.std.specs.Prelude.{◌≡◌, ◌≢◌, ◌⊎◌, ◌<◌, ◌≤◌, ℕ, Bool, List, [], length}
use Rattle.std.specs.Prelude.{Option, Some, None}
use Rattle.podctl_commands.specs.Ships.{Ships}
use Rattle.journal_pair.specs.PairMoments.{EachPair, LeavesPairs}
use Rattle.pod_base.specs.Counts.{CountIncreased}
use Rattle.pod_base.specs.declared.agent.Agent.{Agent}
use Rattle.pod_base.specs.declared.agent.Agent.TheVariants as agents
use Rattle.pod_command.specs.declared.entry.Entry.{Entry}
use Rattle.pod_command.specs.declared.snapshot.Snapshot.{Snapshot}
use Rattle.pod_core.specs.Session.{IsClockMoment}
use Rattle.pod_io.specs.Visible.{IfVisible}
use Rattle.pod_keeper.specs.CrashedPods.{StandsFor}
use Rattle.pod_keeper.specs.NewStores.{new_history, IsNewStore}
use Rattle.podctl_commands.specs.Ends.{IsInitEnd, status_of_store_end}
use Rattle.podctl_commands.specs.Making.{HoldsBytes}
use Rattle.podctl_commands.specs.Prints.{Prints, ReportsDamage}
use Rattle.podctl_commands.specs.declared.store_end.StoreEnd.{StoreEnd}
use Rattle.podctl_commands.specs.declared.store_end.StoreEnd.TheVariants.{Done, NoMemory, NotEmpty}
use Rattle.pod_pipe.specs.DiskRuns.{AreOpened, DiskRun}
use Rattle.pod_pipe.specs.RunStreams.{Streams}
use Rattle.pod_pipe.specs.StoreRuns.{IsUnserved, RunsStore}
use Rattle.pod_pipe.specs.Tables.{IsUnread, TokenSource}

-- the agent of a report: everyone, where none is named
abbrev pub agent_in : Option (List ℕ) → Agent
agent_in None = agents.Public
agent_in (Some agent) = agents.Known agent

-- a disk that shows its content isn't empty
abbrev pub HoldsSome : Option (List ℕ) → Type 0
HoldsSome content = IfVisible content (λ bytes. 0 < length bytes)

-- such a disk is empty
abbrev pub HoldsNothing : Option (List ℕ) → Type 0
HoldsNothing content = IfVisible content (λ bytes. bytes ≡ [])

-- nothing was written
pub record IsUnwritten (old_output new_output old_errors new_errors : Option (List ℕ))
    : Type 0 where
  pub output : new_output ≡ old_output
  pub errors : new_errors ≡ old_errors

-- and nothing was read of the input
pub record IsIdle (streams : Streams) : Type 0 where
  pub unserved : IsUnserved streams
  pub unwritten : IsUnwritten streams.old_output streams.new_output streams.old_errors
      streams.new_errors

module _ {D : Type 0} (run : DiskRun D) where
  -- Out of memory before it began, a run has left the disks unchanged.
  pub record IsUnbegun (status : ℕ) : Type 0 where
    pub status_is : status ≡ 7
    pub first_is : run.new.first ≡ run.old.first
    pub second_is : run.new.second ≡ run.old.second

  -- each pair of crash images since then is one from before
  abbrev pub KeepsImages : Type 0
  KeepsImages = LeavesPairs run.moment run.left_since run.old.first run.old.second run.new.first
      run.new.second (λ c d. run.image run.old.first c × run.image run.old.second d)

  -- A store was made on two empty disks, or why not. What other disks held stays as it was.
  pub record Makes (may_give : ℕ → Type 0) (base owner : List ℕ) (status : ℕ) : Type 0 where
    pub end : StoreEnd
    pub is_end : IsInitEnd end
    pub status_is : status ≡ status_of_store_end end
    pub made : end ≡ Done → (made : ℕ) × IsClockMoment may_give made
        × EachPair (run.image run.new.first) (run.image run.new.second)
        (StandsFor (new_history base owner (record { 0 = made })))
        × EachPair (run.image run.new.first) (run.image run.new.second)
        (IsNewStore base owner (record { 0 = made }))
    pub empty : (end ≡ Done) ⊎ (end ≡ NoMemory)
        → HoldsNothing (run.content run.old.first) × HoldsNothing (run.content run.old.second)
    pub not_empty : end ≡ NotEmpty
        → HoldsSome (run.content run.old.first) ⊎ HoldsSome (run.content run.old.second)
    pub kept : (end ≡ NotEmpty) ⊎ (end ≡ NoMemory)
        → (run.content run.new.first ≡ run.content run.old.first)
        × (run.content run.new.second ≡ run.content run.old.second)
    pub left : (end ≡ NotEmpty) ⊎ (end ≡ NoMemory) → KeepsImages
    pub stays : HoldsBytes (run.content run.old.first) ⊎ HoldsBytes (run.content run.old.second)
        → KeepsImages

  -- what a run of `init` does
  abbrev pub RunsInit : (ℕ → Type 0) → List ℕ → List ℕ → ℕ → Type 0
  RunsInit may_give base owner status = IsUnbegun status ⊎ Makes may_give base owner status

  -- This text of the store was printed, or why not. The disks are as an opening leaves them.
  pub record PrintsStore (text : Snapshot → List Entry → List ℕ)
      (old_output new_output old_errors new_errors : Option (List ℕ)) (before after status : ℕ)
      : Type 0 where
    pub end : StoreEnd
    pub status_is : status ≡ status_of_store_end end
    pub prints : Prints text (run.content run.old.first) (run.content run.old.second) old_output
        new_output end
    pub tells : ReportsDamage end old_errors new_errors before after
    pub disks : AreOpened run

  -- The frames of the store were written, or why not. The disks are as an opening leaves them.
  pub record ShipsStore
      (old_output new_output old_errors new_errors : Option (List ℕ)) (before after status : ℕ)
      : Type 0 where
    pub end : StoreEnd
    pub status_is : status ≡ status_of_store_end end
    pub ships : Ships (run.content run.old.first) (run.content run.old.second) old_output new_output
        end
    pub tells : ReportsDamage end old_errors new_errors before after
    pub disks : AreOpened run

  -- The text was printed, or why not; or memory ran out before.
  abbrev pub PrintsUnless : (Snapshot → List Entry → List ℕ) → Option (List ℕ)
      → Option (List ℕ) → Option (List ℕ) → Option (List ℕ) → ℕ → ℕ → ℕ → Type 0
  PrintsUnless text old_output new_output old_errors new_errors before after status =
      (IsUnbegun status × IsUnwritten old_output new_output old_errors new_errors)
      ⊎ PrintsStore text old_output new_output old_errors new_errors before after status

  -- what a run of `check`, `audit` or `report` does
  abbrev pub RunsPrinting : (Snapshot → List Entry → List ℕ) → Streams → ℕ → Type 0
  RunsPrinting text streams status =
      PrintsUnless text streams.old_output streams.new_output streams.old_errors
      streams.new_errors streams.old_error_faults streams.new_error_faults status

  -- what a run of `ship` does
  abbrev pub RunsShipping : Streams → ℕ → Type 0
  RunsShipping streams status =
      (IsUnbegun status × IsUnwritten streams.old_output streams.new_output streams.old_errors
      streams.new_errors)
      ⊎ ShipsStore streams.old_output streams.new_output streams.old_errors streams.new_errors
      streams.old_error_faults streams.new_error_faults status

  -- what a run of `pipe` over the store does, with agents by the token table or not
  abbrev pub RunsStored : (ℕ → Type 0) → Bool → Bool → TokenSource → Streams → ℕ → Type 0
  RunsStored may_give by_tokens trail tokens streams status =
      (IsUnbegun status × IsIdle streams × IsUnread tokens)
      ⊎ RunsStore run may_give by_tokens trail tokens streams status

-- Of a command that prints of a store: status 3 never comes, and status 4 only where the count of
-- the output increased. No count of the sinks decreased.
pub record PrintFaultsCounted (old_output new_output old_errors new_errors status : ℕ)
    : Type 0 where
  pub no_read : status ≢ 3
  pub write_fault : status ≡ 4 → CountIncreased old_output new_output
  pub output_faults : old_output ≤ new_output
  pub error_faults : old_errors ≤ new_errors
