-- The world: connections that read and write, and one keeper with one history. It advances by
-- events in any order, each of which is one atomic step of a running server.
use Rattle.std.specs.Prelude.{◌≡◌, ◌⊎◌, ℕ, ◌+◌, ◌≤◌, ◌==◌, Bool, true, false, if◌then◌else◌}
use Rattle.std.specs.Prelude.{List, [], ◌∷◌, ◌++◌, length, Option, Some, None}
use Rattle.http_conn.specs.Messages.{Messages}
use Rattle.http_out.specs.Text.{interim_text}
use Rattle.pod_base.specs.declared.heard.Heard.{Heard}
use Rattle.pod_base.specs.declared.heard.Heard.TheVariants as heard
use Rattle.pod_base.specs.declared.moment.Stamp.{Stamp}
use Rattle.pod_base.specs.declared.request.Request.{Request}
use Rattle.pod_command.specs.declared.entry.Entry.{Entry}
use Rattle.pod_core.specs.History.{History, end_of, pod_at}
use Rattle.pod_core.specs.KeeperSteps as keeper
use Rattle.pod_core.specs.KeeperSteps.{Holder, Phase, KeeperView, KeeperEvent, KeeperStep}
use Rattle.pod_core.specs.KeeperSteps.{item_at_end}
use Rattle.pod_core.specs.Output.{item_text, refusal_text}
use Rattle.pod_core.specs.Session.{answered, disk_fault, Item, IsClockMoment, requests_of, upgrades}
use Rattle.pod_core.specs.WorldImages.{IsAllowedImage}
use Rattle.pod_reply.specs.Replies.{Reply}
use Rattle.pod_reply.specs.Reply.{IsReply}
use Rattle.reply_laws.specs.Granted.{is_change}
use Rattle.token_table.specs.Credentials.{AskedAgent}

-- ---- connections

-- A connection: the bytes that it read and those that it wrote, the events of its input that are
-- done, whether it switched protocols, and the last place that it saw.
pub record Connection : Type 0 where
  pub input : List ℕ
  pub output : List ℕ
  pub done : List Heard
  pub switched : Bool
  pub seen : ℕ

-- The next event of a connection: the first of its input's that isn't done. After a switch of
-- protocols there is none.
pub record IsNextEvent (connection : Connection) (event : Heard) : Type 0 where
  pub later : List Heard
  pub rest : ℕ
  pub events : Messages connection.input (connection.done ++ event ∷ later) rest
  pub not_switched : connection.switched ≡ false

-- the number of the next request, from 1
abbrev pub request_number : Connection → ℕ
request_number connection = length (requests_of connection.done) + 1

-- with more input
abbrev pub with_input : Connection → List ℕ → Connection
with_input connection piece = record connection { input = connection.input ++ piece }

-- The next request is answered as this item says, and the connection has seen this place.
abbrev pub with_answer : Connection → Item → ℕ → Connection
with_answer connection item seen = record connection {
  output = connection.output ++ item_text item;
  done = connection.done ++ heard.Request item.request ∷ [];
  switched = upgrades item.outcome;
  seen = seen;
}

-- A malformed message is refused by its status at this moment, and the connection has seen this
-- place.
abbrev pub with_refusal : Connection → ℕ → ℕ → ℕ → Connection
with_refusal connection status moment seen = record connection {
  output = connection.output ++ refusal_text status (Some moment);
  done = connection.done ++ heard.Bad status ∷ [];
  seen = seen;
}

-- the interims that events begin with, and their bytes
abbrev pub first_interims : List Heard → List Heard
first_interims [] = []
first_interims (heard.Interim ∷ events) = heard.Interim ∷ first_interims events
first_interims (heard.Request request ∷ events) = []
first_interims (heard.Bad status ∷ events) = []

abbrev pub interims_text : List Heard → List ℕ
interims_text [] = []
interims_text (heard.Interim ∷ events) = interim_text ++ interims_text events
interims_text (heard.Request request ∷ events) = []
interims_text (heard.Bad status ∷ events) = []

-- The interims that are next are written.
pub record WritesInterims (old new : Connection) : Type 0 where
  pub later : List Heard
  pub rest : ℕ
  pub events : Messages old.input (old.done ++ later) rest
  pub not_switched : old.switched ≡ false
  pub new_is : new ≡ record old {
    output = old.output ++ interims_text later;
    done = old.done ++ first_interims later;
  }

-- Nothing is next after a switch of protocols.
abbrev pub IsSettled : Option Connection → Option Connection → Type 0
IsSettled None None = Unit {0}
IsSettled (Some old) (Some new) = ((old.switched ≡ true) × (new ≡ old)) ⊎ WritesInterims old new
IsSettled _ _ = ⊥

-- ---- the world and its events

-- What its keeper sees, the published place, its connections by their numbers, and whether it has
-- stopped.
pub record World : Type 0 where
  pub keeper : KeeperView
  pub published : ℕ
  pub connections : ℕ → Option Connection
  pub stopped : Bool

-- The first world of a history, with connections of these numbers: all of the history is published,
-- and nothing is read.
abbrev pub first_connection : ℕ → Bool → Option Connection
first_connection place false = None
first_connection place true =
    Some (record { input = []; output = []; done = []; switched = false; seen = place })

abbrev pub first_world : History → (ℕ → Bool) → World
first_world history numbers = record {
  keeper = record { history = history; doubt = None; phase = keeper.free };
  published = end_of history;
  connections = λ conn. first_connection (end_of history) (numbers conn);
  stopped = false;
}

-- Bytes arrive at a connection; a connection looks at a published place, at a moment of the clock,
-- or takes the lock; the holder of the lock continues, or fails; its entry is published; the world
-- stops with an image.
pub data Event : Type 0 where
  arrive : (conn : ℕ) (piece : List ℕ) → Event
  look : (conn place moment : ℕ) → Event
  take : (conn moment : ℕ) → Event
  repair : (ok : Bool) → Event
  body : (ok : Bool) → Event
  gate : (ok : Bool) → Event
  publish : Event
  stop : (image : List ℕ) → Event

-- the connections with this one
abbrev pub put_connection : (ℕ → Option Connection) → ℕ → Connection → ℕ → Option Connection
put_connection connections conn connection other =
    if other == conn then Some connection else connections other

abbrev pub with_connection : World → ℕ → Connection → World
with_connection world conn connection =
    record world { connections = put_connection world.connections conn connection }

abbrev pub with_keeper : World → KeeperView → World
with_keeper world to = record world { keeper = to }

-- the clock's stamp of a connection's next request
abbrev pub next_stamp : ℕ → Connection → ℕ → Stamp
next_stamp conn connection moment = record {
  conn = conn;
  number = request_number connection;
  moment = record { 0 = moment };
}

-- the holder of the lock
abbrev pub holder_in : Phase → Option Holder
holder_in keeper.free = None
holder_in (keeper.taken holder) = Some holder
holder_in (keeper.written holder) = Some holder
holder_in (keeper.opened holder) = Some holder

-- ---- what each event does

-- Bytes are appended to the input.
pub record DoesArrive (conn : ℕ) (piece : List ℕ) (old new : World) : Type 0 where
  pub from : Connection
  pub is_there : old.connections conn ≡ Some from
  pub new_is : new ≡ with_connection old conn (with_input from piece)

-- A malformed message is refused, at this place and moment.
pub record RefusesMessage (place moment : ℕ) (old new : Connection) : Type 0 where
  pub status : ℕ
  pub next : IsNextEvent old (heard.Bad status)
  pub new_is : new ≡ with_refusal old status moment place

-- A reply without an entry is written at once, and the connection has seen the end of the history.
abbrev pub after_take : World → ℕ → Connection → Item → Option Entry → World
after_take world conn connection item None =
    with_connection world conn (with_answer connection item (end_of world.keeper.history))
after_take world conn connection item (Some entry) = world

-- The holder of the lock has met a disk fault, and the response to that is written.
pub record FaultsHolder (to : KeeperView) (old new : World) : Type 0 where
  pub holder : Holder
  pub held : holder_in old.keeper.phase ≡ Some holder
  pub from : Connection
  pub is_there : old.connections holder.conn ≡ Some from
  pub new_is : new ≡ with_connection (with_keeper old to) holder.conn
      (with_answer from (record holder.item { outcome = disk_fault }) from.seen)

-- what a step of the holder is to the world
abbrev pub FollowsStep : Bool → KeeperView → World → World → Type 0
FollowsStep true to old new = new ≡ with_keeper old to
FollowsStep false to old new = FaultsHolder to old new

-- The holder of the lock makes a step.
pub record DoesStep (event : KeeperEvent) (ok : Bool) (old new : World) : Type 0 where
  pub to : KeeperView
  pub step : KeeperStep old.keeper event to
  pub follows : FollowsStep ok to old new

-- all of the history is published, and the lock is free
abbrev pub all_published : World → World
all_published world = record world {
  keeper = record world.keeper { phase = keeper.free };
  published = end_of world.keeper.history;
}

-- The holder's entry is published, and its response is written.
pub record DoesPublish (old new : World) : Type 0 where
  pub holder : Holder
  pub is_opened : old.keeper.phase ≡ keeper.opened holder
  pub from : Connection
  pub is_there : old.connections holder.conn ≡ Some from
  pub new_is : new ≡ with_connection (all_published old) holder.conn
      (with_answer from holder.item (end_of old.keeper.history))

-- A crash leaves an image that is allowed.
pub record DoesStop (image : List ℕ) (old new : World) : Type 0 where
  pub allowed : IsAllowedImage old.keeper image
  pub new_is : new ≡ record old { stopped = true }

-- `may_give` holds of the seconds that the clock may return, and `asking` authenticates the agent
-- of a request.
module _ (may_give : ℕ → Type 0) (asking : Request → AskedAgent) where
  -- A request that is no change is answered by its reply at the place.
  pub record AnswersRead (history : History) (conn place moment : ℕ) (old new : Connection)
      : Type 0 where
    pub request : Request
    pub next : IsNextEvent old (heard.Request request)
    pub changes_nothing : is_change request.method ≡ false
    pub reply : Reply
    pub is_reply : IsReply (pod_at history place) request (asking request) place
        (next_stamp conn old moment) reply
    pub new_is : new ≡ with_answer old (record {
      request = request;
      number = request_number old;
      asked = asking request;
      moment = moment;
      outcome = answered place reply;
    }) place

  -- What is next, and is no change, is answered at a place from the last one that the connection
  -- saw to the published one.
  pub record DoesLook (conn place moment : ℕ) (old new : World) : Type 0 where
    pub from : Connection
    pub is_there : old.connections conn ≡ Some from
    pub seen : from.seen ≤ place
    pub published : place ≤ old.published
    pub clock : IsClockMoment may_give moment
    pub to : Connection
    pub answers : AnswersRead old.keeper.history conn place moment from to
        ⊎ RefusesMessage place moment from to
    pub new_is : new ≡ with_connection old conn to

  -- A change that is next takes the lock.
  pub record DoesTake (conn moment : ℕ) (old new : World) : Type 0 where
    pub from : Connection
    pub is_there : old.connections conn ≡ Some from
    pub request : Request
    pub next : IsNextEvent from (heard.Request request)
    pub clock : IsClockMoment may_give moment
    pub reply : Reply
    pub to : KeeperView
    pub step : KeeperStep old.keeper
        (keeper.take request (asking request) (next_stamp conn from moment) reply) to
    pub new_is : new ≡ with_keeper (after_take old conn from
        (item_at_end old.keeper.history request (asking request) (next_stamp conn from moment)
        reply) reply.entry) to

  -- what an event does, but for the interims
  abbrev pub DoesEvent : World → Event → World → Type 0
  DoesEvent old (arrive conn piece) new = DoesArrive conn piece old new
  DoesEvent old (look conn place moment) new = DoesLook conn place moment old new
  DoesEvent old (take conn moment) new = DoesTake conn moment old new
  DoesEvent old (repair ok) new = DoesStep (keeper.repair ok) ok old new
  DoesEvent old (body ok) new = DoesStep (keeper.body ok) ok old new
  DoesEvent old (gate ok) new = DoesStep (keeper.gate ok) ok old new
  DoesEvent old publish new = DoesPublish old new
  DoesEvent old (stop image) new = DoesStop image old new

  -- One step of a world that hasn't stopped. At its end the interims that are next are written.
  pub record WorldStep (old : World) (event : Event) (new : World) : Type 0 where
    pub runs : old.stopped ≡ false
    pub done : World
    pub does : DoesEvent old event done
    pub settled : (conn : ℕ) → IsSettled (done.connections conn) (new.connections conn)
    pub new_is : new ≡ record done { connections = new.connections }

  -- These steps, one after the other.
  abbrev pub WorldRun : World → List Event → World → Type 0
  WorldRun old [] new = new ≡ old
  WorldRun old (event ∷ events) new =
      (next : World) × WorldStep old event next × WorldRun next events new
