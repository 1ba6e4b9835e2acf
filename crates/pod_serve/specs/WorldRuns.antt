-- The run of one connection as events of a world (`pod_core/specs/World.antt`): its reads, its looks
-- and its changes, in order. Between them the events of other connections may come.
use Rattle.std.specs.Prelude.{◌≡◌, ◌⊎◌, ℕ, ◌+◌, ◌≤◌, true, false, List, [], ◌∷◌, ◌++◌, length, map}
use Rattle.std.specs.Prelude.{Option, Some, None, IsSome}
use Rattle.std.specs.Option.{option_to_list}
use mathlib.Core.List.{IsPrefix}
use Rattle.pod_base.specs.declared.heard.Heard.{Heard}
use Rattle.pod_base.specs.declared.request.Request.{Request}
use Rattle.pod_command.specs.declared.entry.Entry.{Entry}
use Rattle.pod_core.specs.History.{History, end_of, longer}
use Rattle.pod_core.specs.KeeperSteps.{free}
use Rattle.pod_core.specs.Output.{output_of}
use Rattle.pod_core.specs.Session.{Item, Outcome, answered, disk_fault, no_memory}
use Rattle.pod_core.specs.World.{Connection, IsSettled, World, WorldRun, arrive, look}
use Rattle.pod_core.specs.World.{put_connection, with_answer, with_connection}
use Rattle.pod_keeper.specs.CommitEvents.{FailedStep, at_repair}
use Rattle.pod_live.specs.WorldEvents.{IsAtRest, Publishes, change_events, doubt_after, doubt_left}
use Rattle.pod_live.specs.WorldEvents.{fault_events}
use Rattle.conn_talk.specs.Walks.{clock_stamp}
use Rattle.pod_reply.specs.Replies.{Reply}
use Rattle.reply_laws.specs.Granted.{is_change}
use Rattle.token_table.specs.Credentials.{AskedAgent}

-- One read that gave bytes, and the items that were answered before the next one.
pub record ReadTurn : Type 0 where
  pub piece : List ℕ
  pub items : List Item

abbrev pub items_in : List ReadTurn → List Item
items_in [] = []
items_in (turn ∷ turns) = turn.items ++ items_in turns

-- The world runs and has this connection, and all interims that are next in it are written.
pub record HasConnection (world : World) (conn : ℕ) (from : Connection) : Type 0 where
  pub runs : world.stopped ≡ false
  pub is_there : world.connections conn ≡ Some from
  pub settled : (other : ℕ) → IsSettled (world.connections other) (world.connections other)

-- The world where nobody holds the lock, all of this history is published, this entry is in doubt,
-- and a connection is so.
abbrev pub world_at : World → History → Option Entry → ℕ → Connection → World
world_at world history doubt conn to = record world {
  keeper = record { history = history; doubt = doubt; phase = free };
  published = end_of history;
  connections = put_connection world.connections conn to;
}

-- a connection of which nothing was read, and which has seen this place
abbrev pub fresh_connection : ℕ → Connection
fresh_connection place =
    record { input = []; output = []; done = []; switched = false; seen = place }

-- `kept`: the histories that the store's keeper represented at its opening. `shown`: the entries made
-- since that the session of the connection has seen in the end.
module _ (kept : History → Type 0) (may_give : ℕ → Type 0) (asking : Request → AskedAgent)
    (conn : ℕ) (shown : List Entry) where
  -- These bytes were read: the event Arrive, in every world that has the connection.
  abbrev pub Arrives : Connection → List ℕ → Connection → Type 0
  Arrives from piece to = (world : World) → HasConnection world conn from
      → WorldRun may_give asking world (arrive conn piece ∷ []) (with_connection world conn to)

  -- A request that is no change was answered: the event Look at the place after these entries, in
  -- every world that publishes just them and has the connection.
  pub record Looks (from : Connection) (item : Item) (place : ℕ) (to : Connection) : Type 0 where
    pub reads : is_change item.request.method ≡ false
    pub entries : List Entry
    pub seen : IsPrefix entries shown
    pub at : (history : History) → kept history → place ≡ end_of (longer history entries)
    pub look : (history : History) → kept history → (world : World)
        → HasConnection world conn from → Publishes history entries world
        → WorldRun may_give asking world (look conn place item.moment ∷ [])
        (with_connection world conn to)

  -- A change was answered: it takes the lock, and where its reply has an entry, that is written and
  -- published, after these entries, in every world at rest with just them, whatever is in doubt.
  pub record Changes (from : Connection) (item : Item) (place : ℕ) (reply : Reply)
      (to : Connection) : Type 0 where
    pub writes : is_change item.request.method ≡ true
    pub entries : List Entry
    pub seen : IsPrefix (entries ++ option_to_list reply.entry) shown
    pub at : (history : History) → kept history → place ≡ end_of (longer history entries)
    pub clock : ℕ
    pub change : (history : History) → kept history → (doubt : Option Entry) (world : World)
        → HasConnection world conn from → IsAtRest (longer history entries) doubt world
        → WorldRun may_give asking world
        (change_events (clock_stamp conn clock item) doubt reply.entry)
        (world_at world (longer (longer history entries) (option_to_list reply.entry))
        (doubt_after doubt reply.entry) conn to)

  -- A change met a disk fault: its events up to the step that failed, whichever that was. A repair
  -- fails only where an entry is in doubt.
  pub record Faults (from : Connection) (item : Item) (to : Connection) : Type 0 where
    pub entries : List Entry
    pub entry : Entry
    pub clock : ℕ
    pub fault : (history : History) → kept history → (doubt : Option Entry) (step : FailedStep)
        (world : World) → HasConnection world conn from
        → IsAtRest (longer history entries) doubt world → (step ≡ at_repair → IsSome doubt)
        → WorldRun may_give asking world (fault_events (clock_stamp conn clock item) doubt step)
        (world_at world (longer history entries) (doubt_left doubt entry step) conn to)

  -- What an item is in a world. Out of memory is no event: the response is written by nobody's.
  abbrev pub Answers : Connection → Item → Outcome → Connection → Type 0
  Answers from item (answered place reply) to =
      Looks from item place to ⊎ Changes from item place reply to
  Answers from item no_memory to = IsSettled (Some (with_answer from item from.seen)) (Some to)
  Answers from item disk_fault to = Faults from item to

  -- these items, one after the other
  abbrev pub AnswersEach : Connection → List Item → Connection → Type 0
  AnswersEach from [] to = to ≡ from
  AnswersEach from (item ∷ items) to =
      (mid : Connection) × Answers from item item.outcome mid × AnswersEach mid items to

  -- these reads, each with its items
  abbrev pub Runs : Connection → List ReadTurn → Connection → Type 0
  Runs from [] to = to ≡ from
  Runs from (turn ∷ turns) to = (arrived : Connection) × (mid : Connection)
      × Arrives from turn.piece arrived × AnswersEach arrived turn.items mid × Runs mid turns to

  -- A malformed message was refused: the event Look, at the last place that the connection saw, in
  -- every world that publishes it.
  abbrev pub Refuses : Connection → Option ℕ → Connection → Type 0
  Refuses from None to = to ≡ from
  Refuses from (Some moment) to = (world : World) → HasConnection world conn from
      → from.seen ≤ world.published
      → WorldRun may_give asking world (look conn from.seen moment ∷ [])
      (with_connection world conn to)

  -- A connection that was new, and had seen this place, went through these reads and items, and
  -- last a refusal. It has read all of these bytes, whose events are all of these, and the output of
  -- its items over them.
  pub record IsRun (seen : ℕ) (pieces : List (List ℕ)) (items : List Item) (refusal : Option ℕ)
      (read : List ℕ) (events : List Heard) : Type 0 where
    pub turns : List ReadTurn
    pub pieces_are : map (λ (turn : ReadTurn). turn.piece) turns ≡ pieces
    pub items_are : items_in turns ≡ items
    pub mid : Connection
    pub runs : Runs (fresh_connection seen) turns mid
    pub last : Connection
    pub refuses : Refuses mid refusal last
    pub input : last.input ≡ read
    pub output : last.output ≡ output_of events items refusal
