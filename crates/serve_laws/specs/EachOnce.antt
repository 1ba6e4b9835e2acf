-- Each change once: the entries that a store gained while it was served, and the items that added
-- them.
use Rattle.std.specs.Prelude.{◌≡◌, ℕ, ◌+◌, ◌-◌, ◌≤◌, ◌<◌, ◌==◌, ◌&&◌, Bool, false, if◌then◌else◌}
use Rattle.std.specs.Prelude.{List, [], ◌∷◌, ◌++◌, length, IfSome, Some, is_some, slice_get}
use Rattle.std.specs.List.{AllByRecursion}
use Rattle.conn_talk.specs.Agents.{asking_of}
use Rattle.conn_talk.specs.declared.agents.Agents.TheVariants.{Table}
use Rattle.pod_base.specs.declared.request.Request.{Request}
use Rattle.pod_command.specs.declared.entry.Entry.{Entry}
use Rattle.pod_core.specs.History.{History}
use Rattle.pod_core.specs.Session.{Item, Outcome, answered, disk_fault, no_memory}
use Rattle.pod_keeper.specs.KeeperState.{KeeperState}
use Rattle.pod_live.specs.Stores.{KeptSome}
use Rattle.pod_live.specs.Visits.{Visit}
use Rattle.pod_serve.specs.Desks.{Conns, ServedLink}
use Rattle.pod_serve.specs.PoddRuns.{AreAllServed, AreServed, DeskRun}
use Rattle.pod_serve.specs.RunHosts.{Host, ListenView}
use Rattle.pod_serve.specs.Served.{LinkView}
use Rattle.token_table.specs.Credentials.{AskedAgent}
use Rattle.token_table.specs.declared.table_line.TokenEntry.{TokenEntry}

-- ---- the items of connections

module _ (kept : History → Type 0) (first : ℕ) (may_give : ℕ → Type 0)
    (asking : Request → AskedAgent) {C : Type 0} (view : C → LinkView) (step : ℕ) where
  -- the items of the connections of a desk, in order
  abbrev pub conn_items : (number : ℕ) (before : Visit) (links : List (ServedLink C))
      (after : Visit) → Conns kept first may_give asking view step number before links after
      → List Item
  conn_items number before [] after conns = []
  conn_items number before (one ∷ others) after conns = conns.1.items.list
      ++ conn_items (number + step) conns.0 others after conns.2

module _ {D G C : Type 0} (host : Host D G C) (kept : History → Type 0) (first : ℕ)
    (asking : Request → AskedAgent) (list : List Entry) (step : ℕ) where
  -- the items of all connections of all desks
  abbrev pub desk_items : (number : ℕ) (desks : List (DeskRun G))
      → AreServed host kept first asking list step number desks → List Item
  desk_items number [] served = []
  desk_items number (desk ∷ others) served = conn_items kept first host.may_give asking
      host.link_view step number desk.before served.1.links desk.after served.1.conns
      ++ desk_items (number + 1) others served.3

-- the items of a run whose gates were all served
abbrev pub run_items : {D G C : Type 0} {host : Host D G C} {keeper left : KeeperState D}
    {agents : List TokenEntry} {gates : List G} {old new : ListenView G} {status : ℕ}
    → AreAllServed host keeper left agents gates old new status → List Item
run_items {host} {keeper} {agents} run = desk_items host (KeptSome host.image keeper) keeper.next
    (asking_of (Table agents)) run.list (length run.desks) 1 run.desks run.served

-- ---- each change once

-- whether an outcome added an entry at this place
abbrev pub adds_on : ℕ → Outcome → Bool
adds_on place (answered other reply) = is_some reply.entry && (other == place)
adds_on place no_memory = false
adds_on place disk_fault = false

-- how many of the items added an entry at this place
abbrev pub times_added : ℕ → List Item → ℕ
times_added place [] = 0
times_added place (item ∷ items) =
    (if adds_on place item.outcome then 1 else 0) + times_added place items

-- An outcome's entry, where it has one, is in the list at the outcome's place. The place `first` is
-- that of the list's first entry.
abbrev pub StandsOn : ℕ → List Entry → Outcome → Type 0
StandsOn first list (answered place reply) = IfSome reply.entry
    (λ entry. (first ≤ place) × (slice_get list (place - first) ≡ Some entry))
StandsOn first list no_memory = Unit {0}
StandsOn first list disk_fault = Unit {0}

-- Each item that added an entry has it in the list, at the item's place; and at each place of the
-- list exactly one item added an entry.
pub record IsEachOnce (first : ℕ) (list : List Entry) (items : List Item) : Type 0 where
  pub stands : AllByRecursion (λ (item : Item). StandsOn first list item.outcome) items
  pub once : (place : ℕ) → first ≤ place → place < first + length list
      → times_added place items ≡ 1

-- So it is of the list that a store gained in a run whose gates were all served: each of its entries
-- is that of exactly one item of one connection.
abbrev pub EachChangeOnce : {D G C : Type 0} → Host D G C → Type 0
EachChangeOnce {D} {G} {C} host = (keeper left : KeeperState D) (agents : List TokenEntry)
    (gates : List G) (old new : ListenView G) (status : ℕ)
    (run : AreAllServed host keeper left agents gates old new status)
    (history : History) → KeptSome host.image keeper history
    → IsEachOnce keeper.next run.list (run_items run)
