-- How `podd` runs: the store is opened, the token table is read, the listener opens its gates, the
-- versions of the pod are published, and then the connections of all gates are served.
use Rattle.std.specs.Prelude.{◌≡◌, ◌⊎◌, ℕ, ◌+◌, max, List, [], ◌∷◌, ◌++◌, length, map, sum_by, reverse}
use Rattle.std.specs.Prelude.{Contains}
use Rattle.std.specs.Option.{option_map}
use mathlib.Core.List.{IsPrefix}
use Rattle.conn_talk.specs.Agents.{asking_of}
use Rattle.conn_talk.specs.declared.agents.Agents.TheVariants.{Table}
use Rattle.journal_log.specs.declared.fault.OpenFault.{OpenFault}
use Rattle.journal_pair.specs.Doubts.{IsSure}
use Rattle.pod_base.specs.Counts.{CountIncreased}
use Rattle.pod_base.specs.declared.request.Request.{Request}
use Rattle.pod_command.specs.declared.entry.Entry.{Entry}
use Rattle.pod_core.specs.History.{History, longer}
use Rattle.pod_io.specs.declared.listen.ListenFault.{ListenFault}
use Rattle.pod_io.specs.declared.listen.ListenFault.TheVariants as listens
use Rattle.pod_keeper.specs.KeeperState.{KeeperState}
use Rattle.pod_keeper.specs.OpenedPods.{IsOpened, OpensDisks}
use Rattle.pod_live.specs.Stores.{Covers, IsSafe, KeptSome}
use Rattle.pod_live.specs.Takes.{Leads, Took}
use Rattle.pod_live.specs.Visits.{IsNewVisit, Visit}
use Rattle.pod_records.specs.OpenedStores.{HasPodCause}
use Rattle.published_view.specs.LookerState.{CountIncreasedByOne}
use Rattle.published_view.specs.declared.fault.ViewFault.{ViewFault}
use Rattle.published_view.specs.declared.fault.ViewFault.TheVariants as views
use Rattle.journal_log.specs.Refusals.{TellsRefusal, open_status}
use Rattle.pod_pipe.specs.DiskRuns.{AreOpened, DiskRun}
use Rattle.pod_pipe.specs.StoreRuns.{TellsLine, fault_line}
use Rattle.pod_pipe.specs.Tables.{HasTableCause, IsTable, IsUnread, TokenSource, table_status}
use Rattle.pod_pipe.specs.declared.token_file.TableFault.{TableFault}
use Rattle.token_table.specs.Credentials.{AskedAgent}
use Rattle.token_table.specs.declared.table_line.TokenEntry.{TokenEntry}
use Rattle.pod_serve.specs.Desks.{DeskServed}
use Rattle.pod_serve.specs.RunHosts.{ErrorSink, Host, ListenRun, ListenView}
use Rattle.pod_serve.specs.declared.desk.DeskEnd.{DeskEnd}
use Rattle.pod_serve.specs.declared.desk.DeskEnd.TheVariants.{GateEnded, GateFailed, NoMemory}

-- ---- statuses

-- the status of a desk's end
abbrev pub desk_status : DeskEnd → ℕ
desk_status GateEnded = 0
desk_status NoMemory = 7
desk_status GateFailed = 11

-- the status of a run whose desks ended so: 11 where a gate failed, and else 7 where one was out of
-- memory
abbrev pub served_status : List DeskEnd → ℕ
served_status [] = 0
served_status (end ∷ others) = max (desk_status end) (served_status others)

abbrev pub listen_status : ListenFault → ℕ
listen_status listens.Failed = 11
listen_status listens.NoMemory = 7

abbrev pub view_status : ViewFault → ℕ
view_status views.NoPlace = 8
view_status views.NoMemory = 7

-- ---- what a run leaves

-- nothing was written to the error sink
pub record IsUntold (errors : ErrorSink) : Type 0 where
  pub same : errors.new ≡ errors.old
  pub faults : errors.new_faults ≡ errors.old_faults

-- A desk of a run: its gate as it was opened and as it was given back, how it ended, and its session
-- before and after its connections.
pub record DeskRun (G : Type 0) : Type 0 where
  pub opened : G
  pub back : G
  pub end : DeskEnd
  pub before : Visit
  pub after : Visit

-- One of the gates that the listener opened counted a fault before it was given back.
pub record IsGateFault {G : Type 0} (may_open : List G → Type 0) (faults : G → ℕ) : Type 0 where
  pub gates : List G
  pub opened : may_open gates
  pub gate : G
  pub back : G
  pub among : Contains gates gate
  pub counted : CountIncreased (faults gate) (faults back)

-- These gates were given back, from the last to the first.
abbrev pub GivesBack : {G : Type 0} → List G → ListenView G → ListenView G → Type 0
GivesBack gates old new = new.back ≡ option_map (λ back. back ++ reverse gates) old.back

-- The listener opened these gates, and each was given back unserved.
pub record AreGivenBack {G : Type 0} (gates : List G) (listen : ListenRun G) : Type 0 where
  pub opened : listen.may_open gates
  pub back : GivesBack gates listen.old listen.new

module _ {D G C : Type 0} (host : Host D G C) where
  module _ (kept : History → Type 0) (first : ℕ) (asking : Request → AskedAgent)
      (list : List Entry) (step : ℕ) where
    -- The desks of a run, of which the first has this number: each served its connections by a new
    -- session, and what the session has seen is a prefix of the list.
    abbrev pub AreServed : ℕ → List (DeskRun G) → Type 0
    AreServed number [] = Unit {0}
    AreServed number (desk ∷ others) = IsNewVisit [] desk.before
        × DeskServed kept first host.may_give asking host.link_view step number desk.end desk.before
        desk.after (host.gate_view desk.opened) (host.gate_view desk.back)
        × IsPrefix desk.after.seen list × AreServed (number + 1) others

  -- All gates were served. There is one list of entries: for each history that the keeper
  -- represented it then represents that with the list, what each session has seen is a prefix of the
  -- list, and the list has as many entries as all sessions added. At most as many changes met a disk
  -- fault as the disks counted.
  pub record AreAllServed (keeper left : KeeperState D) (agents : List TokenEntry) (gates : List G)
      (old new : ListenView G) (status : ℕ) : Type 0 where
    pub desks : List (DeskRun G)
    pub list : List Entry
    pub gates_are : map (λ desk. desk.opened) desks ≡ gates
    pub served : AreServed (KeptSome host.image keeper) keeper.next (asking_of (Table agents)) list
        (length desks) 1 desks
    pub kept : (history : History) → KeptSome host.image keeper history
        → KeptSome host.image left (longer history list)
    pub grown : length list ≡ sum_by (λ desk. desk.after.changes) desks
    pub counted : Covers (host.faults keeper.first + host.faults keeper.second)
        (sum_by (λ desk. desk.after.faults) desks) (host.faults left.first)
        (host.faults left.second)
    pub safe : IsSafe host.image keeper → IsSafe host.image left
    pub back : GivesBack (map (λ desk. desk.back) desks) old new
    pub status_is : status ≡ served_status (map (λ desk. desk.end) desks)

-- ---- the steps of a run over the keeper that was opened

module _ {D G : Type 0} (keeper left : KeeperState D) (listen : ListenRun G) where
  -- The gates weren't opened: a call of the listener failed, or it was out of memory.
  pub record IsUnlistened (status : ℕ) : Type 0 where
    pub kept : left ≡ keeper
    pub fault : ListenFault
    pub failed : fault ≡ listens.Failed → CountIncreased listen.old.faults listen.new.faults
    pub back : listen.new.back ≡ listen.old.back
    pub status_is : status ≡ listen_status fault

  -- The versions of the pod weren't published: `left_right` refused a reader, or it was out of
  -- memory. The gates were given back.
  pub record IsUnpublished (status : ℕ) : Type 0 where
    pub kept : left ≡ keeper
    pub gates : List G
    pub unserved : AreGivenBack gates listen
    pub fault : ViewFault
    pub refused : fault ≡ views.NoPlace → CountIncreasedByOne listen.old_places listen.new_places
    pub status_is : status ≡ view_status fault

  -- There was no token table. The listener was not called.
  pub record IsUntabled (tokens : TokenSource) (errors : ErrorSink) (status : ℕ) : Type 0 where
    pub kept : left ≡ keeper
    pub fault : TableFault
    pub cause : HasTableCause fault tokens
    pub tells : TellsLine (fault_line fault) (table_status fault) status errors.old errors.new
        errors.old_faults errors.new_faults
    pub listener : listen.new ≡ listen.old

module _ {D G C : Type 0} (host : Host D G C) (keeper left : KeeperState D)
    (listen : ListenRun G) where
  -- The connections of so many gates were served. The changes that were carried to the disks, in the
  -- order of the store's lock, lead from the keeper to the one that is left: they added the entries
  -- of the list, and as many met a disk fault as did of all sessions. At each moment each pair of
  -- crash images represents the history with the entries of the changes before, or that with the
  -- entry in doubt or the one under way (`moments_are_of_changes` of `pod_live`).
  pub record IsServing (agents : List TokenEntry) (workers status : ℕ) : Type 0 where
    pub gates : List G
    pub opened : listen.may_open gates
    pub count : length gates ≡ workers
    pub served : AreAllServed host keeper left agents gates listen.old listen.new status
    pub took : Took (λ taken. Leads host.image host.moment host.left_since keeper taken left)
        served.list (sum_by (λ desk. desk.after.faults) served.desks)

  -- what came of the listener
  abbrev pub RunsListener : List TokenEntry → ℕ → ℕ → Type 0
  RunsListener agents workers status = IsUnlistened keeper left listen status
      ⊎ (IsUnpublished keeper left listen status ⊎ IsServing agents workers status)

  -- the token table was read, and what came of the listener
  pub record IsTabled (workers : ℕ) (tokens : TokenSource) (status : ℕ) : Type 0 where
    pub agents : List TokenEntry
    pub table : IsTable agents tokens
    pub runs : RunsListener agents workers status

  -- what came of the token table
  abbrev pub RunsTokens : ℕ → TokenSource → ErrorSink → ℕ → Type 0
  RunsTokens workers tokens errors status = IsUntabled keeper left listen tokens errors status
      ⊎ (IsUntold errors × IsTabled workers tokens status)

-- ---- a run over the disks of a place

-- The store wasn't opened, and nothing else was done.
pub record IsUnopened {D G : Type 0} (run : DiskRun D) (listen : ListenRun G)
    (tokens : TokenSource) (errors : ErrorSink) (status : ℕ) : Type 0 where
  pub fault : OpenFault
  pub cause : HasPodCause (run.content run.old.first) (run.content run.old.second)
      (run.faults run.old.first) (run.faults run.new.first) (run.faults run.old.second)
      (run.faults run.new.second) fault
  pub disks : AreOpened run
  pub status_is : status ≡ open_status fault
  pub tells : TellsRefusal fault errors.old errors.new errors.old_faults errors.new_faults
  pub unread : IsUnread tokens
  pub listener : listen.new ≡ listen.old

module _ {D G C : Type 0} (host : Host D G C) (run : DiskRun D) (listen : ListenRun G) where
  -- The store was opened as this keeper, and its disks are those that are left.
  pub record IsOpenedRun (workers : ℕ) (tokens : TokenSource) (errors : ErrorSink) (status : ℕ)
      : Type 0 where
    pub keeper : KeeperState D
    pub left : KeeperState D
    pub bodies : List (List ℕ)
    pub opened : IsOpened run.image (run.content run.old.first) (run.content run.old.second) bodies
        keeper
    pub sure : IsSure run.image keeper.first keeper.second keeper.pair
    pub disks : OpensDisks run.image run.moment run.left_since run.faults run.old.first
        run.old.second keeper.first keeper.second
    pub first_is : run.new.first ≡ left.first
    pub second_is : run.new.second ≡ left.second
    pub runs : RunsTokens host keeper left listen workers tokens errors status

  -- What a run of `podd` with so many workers does. Out of memory before it began, it leaves
  -- everything as it was.
  abbrev pub RunsPodd : ℕ → TokenSource → ErrorSink → ℕ → Type 0
  RunsPodd workers tokens errors status = IsUnopened run listen tokens errors status
      ⊎ IsOpenedRun workers tokens errors status
