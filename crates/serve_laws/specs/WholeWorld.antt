-- A run of `podd` as one run of a world (`pod_core/specs/World.antt`): the events of all of its
-- connections, in one order.
use Rattle.std.specs.Prelude.{◌≡◌, ◌≢◌, ℕ, ◌+◌, ◌==◌, ◌||◌, Bool, false, List, [], ◌∷◌, ◌++◌, length}
use Rattle.std.specs.Prelude.{Some}
use Rattle.std.specs.List.{AllByRecursion}
use Rattle.conn_talk.specs.Agents.{asking_of}
use Rattle.conn_talk.specs.declared.agents.Agents.TheVariants.{Table}
use Rattle.http_conn.specs.Messages.{Messages}
use Rattle.pod_base.specs.declared.heard.Heard.{Heard}
use Rattle.pod_base.specs.declared.request.Request.{Request}
use Rattle.pod_command.specs.declared.entry.Entry.{Entry}
use Rattle.pod_core.specs.History.{History, end_of, longer}
use Rattle.pod_core.specs.Output.{output_of}
use Rattle.pod_core.specs.Session.{Item}
use Rattle.pod_core.specs.World.{Connection, Event, World, WorldRun, first_world}
use Rattle.pod_keeper.specs.KeeperState.{KeeperState}
use Rattle.pod_live.specs.Stores.{KeptSome}
use Rattle.pod_live.specs.Visits.{Visit}
use Rattle.pod_serve.specs.Connections.{ConnServed}
use Rattle.pod_serve.specs.Desks.{Conns, ServedLink}
use Rattle.pod_serve.specs.PoddRuns.{AreAllServed, AreServed, DeskRun}
use Rattle.pod_serve.specs.RunHosts.{Host, ListenView}
use Rattle.pod_serve.specs.Served.{LinkView}
use Rattle.pod_serve.specs.declared.connection_end.ConnEnd.{ConnEnd}
use Rattle.pod_serve.specs.declared.desk.DeskEnd.TheVariants.{NoMemory}
use Rattle.serve_laws.specs.EachOnce.{run_items}
use Rattle.serve_laws.specs.Replied.{IsReplied}
use Rattle.socket_wire.specs.Counted.{WireCounts}
use Rattle.token_table.specs.Credentials.{AskedAgent}
use Rattle.token_table.specs.declared.table_line.TokenEntry.{TokenEntry}

-- ---- the numbers of connections

abbrev pub is_among : List ℕ → ℕ → Bool
is_among [] n = false
is_among (m ∷ ms) n = n == m || is_among ms n

-- of a desk whose first connection has this number
abbrev pub conn_numbers : {C : Type 0} → ℕ → ℕ → List (ServedLink C) → List ℕ
conn_numbers step number [] = []
conn_numbers step number (one ∷ others) = number ∷ conn_numbers step (number + step) others

-- ---- connections in a world

-- The world has the connection of that number: its input is all that was read of the link, and its
-- output that of its items, over all events of what was read.
pub record IsInWorld (world : World) {kept : History → Type 0} {first : ℕ} {may_give : ℕ → Type 0}
    {asking : Request → AskedAgent} {number : ℕ} {end : ConnEnd} {before after : Visit}
    {old new : LinkView} {wires counted : WireCounts} (served : ConnServed kept first may_give asking
    number end before after old new wires counted) : Type 0 where
  pub connection : Connection
  pub is_there : world.connections number ≡ Some connection
  pub input : connection.input ≡ served.requests.read
  pub all : List Heard
  pub rest : ℕ
  pub messages : Messages served.requests.read all rest
  pub output : connection.output ≡ output_of all served.items.list served.items.refusal

module _ (kept : History → Type 0) (first : ℕ) (may_give : ℕ → Type 0)
    (asking : Request → AskedAgent) {C : Type 0} (view : C → LinkView) (step : ℕ) (world : World)
  where
    -- the connections of a desk
    abbrev pub AreInWorld : (number : ℕ) (before : Visit) (links : List (ServedLink C))
        (after : Visit) → Conns kept first may_give asking view step number before links after
        → Type 0
    AreInWorld number before [] after conns = Unit {0}
    AreInWorld number before (one ∷ others) after conns =
        IsInWorld world conns.1 × AreInWorld (number + step) conns.0 others after conns.2

module _ {D G C : Type 0} (host : Host D G C) (kept : History → Type 0) (first : ℕ)
    (asking : Request → AskedAgent) (list : List Entry) (step : ℕ) where
  -- the numbers of the connections of all desks
  abbrev pub desk_numbers : (number : ℕ) (desks : List (DeskRun G))
      → AreServed host kept first asking list step number desks → List ℕ
  desk_numbers number [] served = []
  desk_numbers number (desk ∷ others) served =
      conn_numbers step number served.1.links ++ desk_numbers (number + 1) others served.3

  -- the connections of all desks
  abbrev pub AllInWorld : World → (number : ℕ) (desks : List (DeskRun G))
      → AreServed host kept first asking list step number desks → Type 0
  AllInWorld world number [] served = Unit {0}
  AllInWorld world number (desk ∷ others) served =
      AreInWorld kept first host.may_give asking host.link_view step world number desk.before
      served.1.links desk.after served.1.conns
      × AllInWorld world (number + 1) others served.3

-- ---- a run

-- From the first world of a history, with all connections of the run, these events lead to a world
-- at rest whose history has all entries of the run, and in which each connection has read and
-- written what it did.
pub record IsOneWorld {D G C : Type 0} {host : Host D G C} {keeper left : KeeperState D}
    {agents : List TokenEntry} {gates : List G} {old new : ListenView G} {status : ℕ}
    (run : AreAllServed host keeper left agents gates old new status) (history : History)
    : Type 0 where
  pub events : List Event
  pub world : World
  pub runs : WorldRun host.may_give (asking_of (Table agents)) (first_world history (is_among
      (desk_numbers host (KeptSome host.image keeper) keeper.next (asking_of (Table agents))
      run.list (length run.desks) 1 run.desks run.served))) events world
  pub history_is : world.keeper.history ≡ longer history run.list
  pub published : world.published ≡ end_of (longer history run.list)
  pub connections : AllInWorld host (KeptSome host.image keeper) keeper.next
      (asking_of (Table agents)) run.list (length run.desks) world 1 run.desks run.served

-- Each run of `podd` whose gates were all served is one run of a world, where each request that got
-- an item was answered, and no desk was out of memory.
abbrev pub RunsAreWorlds : {D G C : Type 0} → Host D G C → Type 0
RunsAreWorlds {D} {G} {C} host = (keeper left : KeeperState D) (agents : List TokenEntry)
    (gates : List G) (old new : ListenView G) (status : ℕ)
    (run : AreAllServed host keeper left agents gates old new status)
    → AllByRecursion (λ (item : Item). IsReplied item.outcome) (run_items run)
    → AllByRecursion (λ (desk : DeskRun G). desk.end ≢ NoMemory) run.desks
    → (history : History) → KeptSome host.image keeper history → IsOneWorld run history
