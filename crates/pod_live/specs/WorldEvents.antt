-- What the calls of a store are as events of a world (`pod_core/specs/World.antt`), in every world
-- that a running store may be seen as.
use Rattle.std.specs.Prelude.{◌≡◌, ℕ, ◌≤◌, true, false, List, [], ◌∷◌, ◌++◌, min, Option, Some}
use Rattle.std.specs.Prelude.{None, IsSome}
use Rattle.std.specs.Option.{option_to_list}
use Rattle.pod_base.specs.declared.heard.Heard.TheVariants as heard
use Rattle.pod_base.specs.declared.moment.Stamp.{Stamp}
use Rattle.pod_base.specs.declared.request.Request.{Request}
use Rattle.pod_base.specs.declared.response.Response.{Response}
use Rattle.pod_command.specs.declared.entry.Entry.{Entry}
use Rattle.pod_core.specs.History.{History, end_of, longer}
use Rattle.pod_core.specs.KeeperSteps.{free, item_at_end}
use Rattle.pod_core.specs.Session.{Item, answered, disk_fault}
use Rattle.pod_core.specs.World.{Connection, DoesEvent, DoesLook, Event, IsNextEvent, World}
use Rattle.pod_core.specs.World.{body, gate, publish, put_connection, repair, request_number, take}
use Rattle.pod_core.specs.World.{with_answer, with_connection}
use Rattle.pod_keeper.specs.CommitEvents.{FailedStep, at_body, at_gate, at_repair}
use Rattle.pod_reply.specs.Replies.{Reply}
use Rattle.token_table.specs.Credentials.{AskedAgent}

-- ---- a request of a connection

-- a clock that returns this moment alone
abbrev pub gives : ℕ → ℕ → Type 0
gives moment seconds = moment ≡ min seconds 253_402_300_799

-- In the world this request is the next event of a connection, which has seen the history up to a
-- place of at most `seen`. Its stamp has the connection, the request's number in it, and a moment
-- that a clock gives; the agent of the request is authenticated so.
pub record IsNextRequest (world : World) (from : Connection) (seen : ℕ)
    (asking : Request → AskedAgent) (request : Request) (asked : AskedAgent) (stamp : Stamp)
    : Type 0 where
  pub is_there : world.connections stamp.conn ≡ Some from
  pub seen_at : from.seen ≤ seen
  pub next : IsNextEvent from (heard.Request request)
  pub number : request_number from ≡ stamp.number
  pub agent : asking request ≡ asked
  pub seconds : ℕ
  pub moment : gives stamp.moment.0 seconds

-- ---- a request that is no change

-- The world's history is this one with these entries and maybe more, and just these are published.
pub record Publishes (history : History) (entries : List Entry) (world : World) : Type 0 where
  pub more : List Entry
  pub history_is : world.keeper.history ≡ longer (longer history entries) more
  pub published : world.published ≡ end_of (longer history entries)

-- the item of a request that was answered at a place
abbrev pub item_at : Request → AskedAgent → Stamp → ℕ → Reply → Item
item_at request asked stamp place reply = record {
  request = request;
  number = stamp.number;
  asked = asked;
  moment = stamp.moment.0;
  outcome = answered place reply;
}

-- The answer is a look at the place after these entries: in every world that publishes just them, by
-- every connection whose next request this is and that has seen no more than the session had.
pub record IsLook (kept : History → Type 0) (seen given : List Entry) (request : Request)
    (asked : AskedAgent) (stamp : Stamp) (response : Response) : Type 0 where
  pub reply : Reply
  pub response_is : response ≡ reply.response
  pub look : (history : History) → kept history → (world : World) (from : Connection)
      (asking : Request → AskedAgent) → Publishes history given world
      → IsNextRequest world from (end_of (longer history seen)) asking request asked stamp
      → DoesLook (gives stamp.moment.0) asking stamp.conn (end_of (longer history given))
      stamp.moment.0 world (with_connection world stamp.conn (with_answer from
      (item_at request asked stamp (end_of (longer history given)) reply)
      (end_of (longer history given))))

-- ---- a change

-- these events, one after the other, but for interims
abbrev pub DoesEvents : (ℕ → Type 0) → (Request → AskedAgent) → World → List Event → World
    → Type 0
DoesEvents may_give asking old [] new = new ≡ old
DoesEvents may_give asking old (event ∷ events) new =
    (next : World) × DoesEvent may_give asking old event next
    × DoesEvents may_give asking next events new

-- Nobody holds the lock of the world. Its history is this one, all of it is published, and this
-- entry is in doubt.
pub record IsAtRest (history : History) (doubt : Option Entry) (world : World) : Type 0 where
  pub keeper : world.keeper ≡ record { history = history; doubt = doubt; phase = free }
  pub published : world.published ≡ end_of history

-- the repair of an entry in doubt
abbrev pub repairs : Option Entry → List Event
repairs None = []
repairs (Some entry) = repair true ∷ []

-- The events of a change that was answered: it takes the lock; where its reply has an entry, an
-- entry in doubt is repaired, the entry's record is written, its gate is opened, and it is published.
abbrev pub change_events : Stamp → Option Entry → Option Entry → List Event
change_events stamp doubt None = take stamp.conn stamp.moment.0 ∷ []
change_events stamp doubt (Some entry) = take stamp.conn stamp.moment.0
    ∷ (repairs doubt ++ (body true ∷ gate true ∷ publish ∷ []))

-- nothing is in doubt after an entry
abbrev pub doubt_after : Option Entry → Option Entry → Option Entry
doubt_after doubt None = doubt
doubt_after doubt (Some entry) = None

-- The world after it: at rest with this history, and the connection has its answer.
abbrev pub changed_world : World → History → Option Entry → ℕ → Connection → Item → World
changed_world world history doubt conn from item = record world {
  keeper = record { history = history; doubt = doubt; phase = free };
  published = end_of history;
  connections = put_connection world.connections conn (with_answer from item (end_of history));
}

-- The change is answered with this reply by these events, after these entries: in every world at
-- rest that publishes just them, whatever is in doubt.
abbrev pub IsChange : (History → Type 0) → List Entry → Request → AskedAgent → Stamp → Reply
    → Type 0
IsChange kept entries request asked stamp reply =
    (history : History) → kept history → (doubt : Option Entry) (world : World)
    (from : Connection) (asking : Request → AskedAgent)
    → IsAtRest (longer history entries) doubt world
    → IsNextRequest world from (end_of (longer history entries)) asking request asked stamp
    → DoesEvents (gives stamp.moment.0) asking world (change_events stamp doubt reply.entry)
    (changed_world world (longer (longer history entries) (option_to_list reply.entry))
    (doubt_after doubt reply.entry) stamp.conn from
    (item_at_end (longer history entries) request asked stamp reply))

-- ---- a change that met a disk fault

-- Its events, where the disk failed at this step.
abbrev pub fault_events : Stamp → Option Entry → FailedStep → List Event
fault_events stamp doubt at_repair = take stamp.conn stamp.moment.0 ∷ repair false ∷ []
fault_events stamp doubt at_body = take stamp.conn stamp.moment.0
    ∷ (repairs doubt ++ (body false ∷ []))
fault_events stamp doubt at_gate = take stamp.conn stamp.moment.0
    ∷ (repairs doubt ++ (body true ∷ gate false ∷ []))

-- What it leaves in doubt: after a failed repair what was, and after a failed gate its entry.
abbrev pub doubt_left : Option Entry → Entry → FailedStep → Option Entry
doubt_left doubt entry at_repair = doubt
doubt_left doubt entry at_body = None
doubt_left doubt entry at_gate = Some entry

-- The world after it: at rest with the history from before, and the connection has the response to
-- a disk fault.
abbrev pub faulted_world : World → History → Option Entry → ℕ → Connection → Item → World
faulted_world world history doubt conn from item = record world {
  keeper = record { history = history; doubt = doubt; phase = free };
  connections = put_connection world.connections conn
      (with_answer from (record item { outcome = disk_fault }) from.seen);
}

-- The change, whose reply has this entry, was tried after these entries, and at one of its steps a
-- disk failed: in every world at rest that publishes just them these are its events, whatever is in
-- doubt. A repair fails only where an entry is.
abbrev pub IsFault : (History → Type 0) → List Entry → Request → AskedAgent → Stamp → Reply → Entry
    → Type 0
IsFault kept entries request asked stamp reply entry =
    (history : History) → kept history → (doubt : Option Entry) (world : World)
    (from : Connection) (asking : Request → AskedAgent) (step : FailedStep)
    → IsAtRest (longer history entries) doubt world
    → IsNextRequest world from (end_of (longer history entries)) asking request asked stamp
    → (step ≡ at_repair → IsSome doubt)
    → DoesEvents (gives stamp.moment.0) asking world (fault_events stamp doubt step)
    (faulted_world world (longer history entries) (doubt_left doubt entry step) stamp.conn from
    (item_at_end (longer history entries) request asked stamp reply))
