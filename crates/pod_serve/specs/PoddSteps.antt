-- The steps of a run of `podd`, as its functions state them.
use Rattle.std.specs.Prelude.{◌≡◌, ◌⊎◌, ℕ, ◌+◌, max, List, [], ◌∷◌, length, map, sum_by}
use Rattle.std.specs.Prelude.{Option, Some, None}
use mathlib.Core.List.{IsPrefix}
use Rattle.conn_talk.specs.Agents.{asking_of}
use Rattle.conn_talk.specs.declared.agents.Agents.TheVariants.{Table}
use Rattle.pod_base.specs.EachTo.{EachTo}
use Rattle.pod_base.specs.declared.request.Request.{Request}
use Rattle.pod_command.specs.declared.entry.Entry.{Entry}
use Rattle.pod_core.specs.History.{History, longer}
use Rattle.pod_keeper.specs.KeeperState.{KeeperState}
use Rattle.pod_live.specs.Stores.{Covers, IsSafe, KeptSome}
use Rattle.pod_live.specs.Takes.{TookChanges}
use Rattle.pod_live.specs.Visits.{Visit}
use Rattle.published_view.specs.LookerState.{CountIncreasedByOne}
use Rattle.published_view.specs.declared.fault.ViewFault.{ViewFault}
use Rattle.published_view.specs.declared.fault.ViewFault.TheVariants as views
use Rattle.token_table.specs.Credentials.{AskedAgent}
use Rattle.token_table.specs.declared.table_line.TokenEntry.{TokenEntry}
use Rattle.pod_serve.specs.Desks.{EachDeskServed}
use Rattle.pod_serve.specs.PoddRuns.{AreServed, DeskRun, GivesBack, desk_status, served_status}
use Rattle.pod_serve.specs.PoddRuns.{view_status}
use Rattle.pod_serve.specs.RunHosts.{Host, ListenRun, ListenView}
use Rattle.pod_serve.specs.declared.desk.DeskEnd.{DeskEnd}

-- the status of a desk, which knows how it ended once it was served
abbrev pub told_status : Option DeskEnd → ℕ
told_status (Some end) = desk_status end
told_status None = 0

abbrev pub told_statuses : List (Option DeskEnd) → ℕ
told_statuses [] = 0
told_statuses (told ∷ others) = max (told_status told) (told_statuses others)

-- What the names of a store (`StoreName` and `KeeperName` of `pod_live`) say of it as it was opened:
-- the histories that its keeper represented, the number after them, what held of its disks, how many
-- faults these had counted, and which keeper it was.
pub record NamedStore (D : Type 0) : Type 1 where
  pub kept : History → Type 0
  pub first : ℕ
  pub safe : Type 0
  pub counted : ℕ
  pub began : KeeperState D → Type 0

abbrev pub store_named : {D : Type 0} → (History → Type 0) → ℕ → Type 0 → ℕ
    → (KeeperState D → Type 0) → NamedStore D
store_named kept first safe counted began = record {
  kept = kept;
  first = first;
  safe = safe;
  counted = counted;
  began = began;
}

-- that of a store which was opened as this keeper
abbrev pub opened_store : {D G C : Type 0} → Host D G C → KeeperState D → NamedStore D
opened_store host keeper = store_named (KeptSome host.image keeper) keeper.next
    (IsSafe host.image keeper) (host.faults keeper.first + host.faults keeper.second)
    (λ began. keeper ≡ began)

-- The versions of the pod weren't published, and the gates were given back.
pub record AreUnserved {D G : Type 0} (keeper left : KeeperState D) (gates : List G)
    (listen : ListenRun G) (status : ℕ) : Type 0 where
  pub kept : left ≡ keeper
  pub back : GivesBack gates listen.old listen.new
  pub fault : ViewFault
  pub refused : fault ≡ views.NoPlace → CountIncreasedByOne listen.old_places listen.new_places
  pub status_is : status ≡ view_status fault

module _ {D G C : Type 0} (host : Host D G C) where
  module _ (store : NamedStore D) (asking : Request → AskedAgent) (left : KeeperState D) where
    -- The desks were served as those in `mid` are, and then the store was closed: all sessions have
    -- seen one list, and the desks are as they were.
    pub record AreClosed {S : Type 0} (session : S → Visit) (gate : S → G)
        (told : S → Option DeskEnd) (old new : List S) : Type 0 where
      pub mid : List S
      pub list : List Entry
      pub desks : EachDeskServed store.kept store.first host.may_give asking host.link_view
          host.gate_view session gate told (length old) 1 old mid
      pub met : EachTo (λ one other. IsPrefix (session one).seen list
          × (gate other ≡ gate one) × (told other ≡ told one)) mid new
      pub longer_kept : (history : History) → store.kept history
          → KeptSome host.image left (longer history list)
      pub grown : length list ≡ sum_by (λ one. (session one).changes) mid
      pub covered : Covers store.counted (sum_by (λ one. (session one).faults) mid)
          (host.faults left.first) (host.faults left.second)
      pub still_safe : store.safe → IsSafe host.image left
      pub took : TookChanges host.image host.moment host.left_since store.began list
          (sum_by (λ one. (session one).faults) mid) left

    -- All gates were served, under the names of one store.
    pub record AreServedAs (gates : List G) (old new : ListenView G) (status : ℕ) : Type 0 where
      pub desks : List (DeskRun G)
      pub list : List Entry
      pub gates_are : map (λ desk. desk.opened) desks ≡ gates
      pub served : AreServed host store.kept store.first asking list (length desks) 1 desks
      pub longer_kept : (history : History) → store.kept history
          → KeptSome host.image left (longer history list)
      pub grown : length list ≡ sum_by (λ desk. desk.after.changes) desks
      pub covered : Covers store.counted (sum_by (λ desk. desk.after.faults) desks)
          (host.faults left.first) (host.faults left.second)
      pub still_safe : store.safe → IsSafe host.image left
      pub took : TookChanges host.image host.moment host.left_since store.began list
          (sum_by (λ desk. desk.after.faults) desks) left
      pub back : GivesBack (map (λ desk. desk.back) desks) old new
      pub status_is : status ≡ served_status (map (λ desk. desk.end) desks)

  -- the gates were served or not, under the names of one store
  abbrev pub RunsGates : NamedStore D → (Request → AskedAgent) → KeeperState D → KeeperState D
      → List G → ListenRun G → ℕ → Type 0
  RunsGates store asking keeper left gates listen status =
      AreUnserved keeper left gates listen status
      ⊎ AreServedAs store asking left gates listen.old listen.new status

  -- so of a store that was opened as this keeper
  abbrev pub RunsOpened : KeeperState D → KeeperState D → List TokenEntry → List G → ListenRun G
      → ℕ → Type 0
  RunsOpened keeper left agents gates listen status = RunsGates (opened_store host keeper)
      (asking_of (Table agents)) keeper left gates listen status
