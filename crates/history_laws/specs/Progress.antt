-- What a world may do next: a change that has a reply can be completed, also after a failure.
use Rattle.std.specs.Prelude.{◌≡◌, ℕ, ◌≤◌, true, false, IsTrue, List, [], ◌∷◌, ◌++◌, Some, None}
use Rattle.pod_base.specs.declared.heard.Heard.TheVariants as heard
use Rattle.pod_base.specs.declared.request.Request.{Request}
use Rattle.pod_command.specs.declared.entry.Entry.{Entry}
use Rattle.pod_core.specs.History.{end_of, longer, pod_at}
use Rattle.pod_core.specs.KeeperSteps as keeper
use Rattle.pod_core.specs.KeeperSteps.{IsReplyAtEnd, item_at_end}
use Rattle.pod_core.specs.Session.{IsClockMoment, Item, answered, disk_fault}
use Rattle.pod_core.specs.World as world
use Rattle.pod_core.specs.World.{Connection, Event, IsNextEvent, IsSettled, World, WorldRun}
use Rattle.pod_core.specs.World.{WorldStep, next_stamp, request_number, with_answer, with_input}
use Rattle.pod_core.specs.World.{with_refusal}
use Rattle.pod_core.specs.WorldImages.{journal_of}
use Rattle.pod_reply.specs.Replies.{Reply}
use Rattle.pod_reply.specs.Reply.{IsReply}
use Rattle.reply_laws.specs.Granted.{is_change}
use Rattle.token_table.specs.Credentials.{AskedAgent}

-- The world hasn't stopped, nobody holds the lock, and no connection has anything to write before
-- its next event.
pub record IsQuietWorld (w : World) : Type 0 where
  pub runs : w.stopped ≡ false
  pub is_free : w.keeper.phase ≡ keeper.free
  pub rests : (conn : ℕ) → IsSettled (w.connections conn) (w.connections conn)

-- A change is next on the connection, and has a reply with an entry at the end of the history.
pub record HasChange (may_give : ℕ → Type 0) (asking : Request → AskedAgent) (w : World)
    (conn moment : ℕ) (entry : Entry) : Type 0 where
  pub from : Connection
  pub is_there : w.connections conn ≡ Some from
  pub request : Request
  pub next : IsNextEvent from (heard.Request request)
  pub changes : IsTrue (is_change request.method)
  pub clock : IsClockMoment may_give moment
  pub reply : Reply
  pub is_reply : IsReplyAtEnd w.keeper.history request (asking request)
      (next_stamp conn from moment) reply
  pub has_entry : reply.entry ≡ Some entry

-- the item of that change
abbrev pub item_of_change : {may_give : ℕ → Type 0} {asking : Request → AskedAgent} {w : World}
    {conn moment : ℕ} {entry : Entry} → HasChange may_give asking w conn moment entry → Item
item_of_change {may_give} {asking} {w} {conn} {moment} {entry} c = item_at_end w.keeper.history
    c.request (asking c.request) (next_stamp conn c.from moment) c.reply

-- what a connection becomes after an answer, with the interims that are next
pub record Settles (before : Connection) : Type 0 where
  pub after : Connection
  pub settled : IsSettled (Some before) (Some after)

-- These events lead to a world whose history has the entry, all of it published.
pub record Completes (may_give : ℕ → Type 0) (asking : Request → AskedAgent) (old : World)
    (events : List Event) (entry : Entry) : Type 0 where
  pub new : World
  pub run : WorldRun may_give asking old events new
  pub history_is : new.keeper.history ≡ longer old.keeper.history (entry ∷ [])
  pub published : new.published ≡ end_of new.keeper.history

-- Where nothing is in doubt, the change can be completed: its record is written, its gate opened,
-- its entry published.
abbrev pub ChangesMayComplete : (ℕ → Type 0) → Type 0
ChangesMayComplete may_give = (asking : Request → AskedAgent) (old : World) (conn moment : ℕ)
    (entry : Entry) → IsQuietWorld old → old.keeper.doubt ≡ None
    → (c : HasChange may_give asking old conn moment entry)
    → Settles (with_answer c.from (item_of_change c)
    (end_of (longer old.keeper.history (entry ∷ []))))
    → Completes may_give asking old (world.take conn moment ∷ world.body true ∷ world.gate true
    ∷ world.publish ∷ []) entry

-- Where an entry is in doubt, it can be completed too, after a repair.
abbrev pub RepairsMayComplete : (ℕ → Type 0) → Type 0
RepairsMayComplete may_give = (asking : Request → AskedAgent) (old : World) (conn moment : ℕ)
    (entry doubted : Entry) → IsQuietWorld old → old.keeper.doubt ≡ Some doubted
    → (c : HasChange may_give asking old conn moment entry)
    → Settles (with_answer c.from (item_of_change c)
    (end_of (longer old.keeper.history (entry ∷ []))))
    → Completes may_give asking old (world.take conn moment ∷ world.repair true
    ∷ world.body true ∷ world.gate true ∷ world.publish ∷ []) entry

-- A gate that fails leaves the entry in doubt, the history as it is, and the lock free.
pub record LeavesDoubt (may_give : ℕ → Type 0) (asking : Request → AskedAgent) (old : World)
    (events : List Event) (entry : Entry) : Type 0 where
  pub new : World
  pub run : WorldRun may_give asking old events new
  pub history_is : new.keeper.history ≡ old.keeper.history
  pub doubt : new.keeper.doubt ≡ Some entry
  pub is_free : new.keeper.phase ≡ keeper.free

abbrev pub GatesMayFail : (ℕ → Type 0) → Type 0
GatesMayFail may_give = (asking : Request → AskedAgent) (old : World) (conn moment : ℕ)
    (entry : Entry) → IsQuietWorld old → old.keeper.doubt ≡ None
    → (c : HasChange may_give asking old conn moment entry)
    → Settles (with_answer c.from (record (item_of_change c) { outcome = disk_fault })
    c.from.seen)
    → LeavesDoubt may_give asking old (world.take conn moment ∷ world.body true
    ∷ world.gate false ∷ []) entry

-- ---- the events of connections, and the last one

-- The world hasn't stopped, and no connection has anything to write before its next event.
pub record IsWaiting (w : World) : Type 0 where
  pub runs : w.stopped ≡ false
  pub rests : (conn : ℕ) → IsSettled (w.connections conn) (w.connections conn)

-- The world has a step of that event.
pub record HasStep (may_give : ℕ → Type 0) (asking : Request → AskedAgent) (old : World)
    (event : Event) : Type 0 where
  pub new : World
  pub step : WorldStep may_give asking old event new

-- Bytes may arrive on each connection.
abbrev pub BytesMayArrive : (ℕ → Type 0) → Type 0
BytesMayArrive may_give = (asking : Request → AskedAgent) (old : World) (conn : ℕ) (piece : List ℕ)
    (from : Connection) → IsWaiting old → old.connections conn ≡ Some from
    → Settles (with_input from piece) → HasStep may_give asking old (world.arrive conn piece)

-- The connection may look at the place at that moment.
pub record MayLook (may_give : ℕ → Type 0) (w : World) (conn place moment : ℕ) : Type 0 where
  pub from : Connection
  pub is_there : w.connections conn ≡ Some from
  pub seen : from.seen ≤ place
  pub published : place ≤ w.published
  pub clock : IsClockMoment may_give moment

-- A request that is no change is next, and has a reply at the place.
pub record HasRead (asking : Request → AskedAgent) (w : World) (conn place moment : ℕ)
    (from : Connection) : Type 0 where
  pub request : Request
  pub next : IsNextEvent from (heard.Request request)
  pub changes_nothing : is_change request.method ≡ false
  pub reply : Reply
  pub is_reply : IsReply (pod_at w.keeper.history place) request (asking request) place
      (next_stamp conn from moment) reply

-- the item of that request
abbrev pub item_of_read : {asking : Request → AskedAgent} {w : World} {conn place moment : ℕ}
    {from : Connection} → HasRead asking w conn place moment from → Item
item_of_read {asking} {w} {conn} {place} {moment} {from} read = record {
  request = read.request;
  number = request_number from;
  asked = asking read.request;
  moment = moment;
  outcome = answered place read.reply;
}

-- A read may be answered at each place from the last that its connection saw to the published one.
abbrev pub ReadsMayBeAnswered : (ℕ → Type 0) → Type 0
ReadsMayBeAnswered may_give = (asking : Request → AskedAgent) (old : World)
    (conn place moment : ℕ) → IsWaiting old → (look : MayLook may_give old conn place moment)
    → (read : HasRead asking old conn place moment look.from)
    → Settles (with_answer look.from (item_of_read read) place)
    → HasStep may_give asking old (world.look conn place moment)

-- A malformed message may be refused.
abbrev pub MessagesMayBeRefused : (ℕ → Type 0) → Type 0
MessagesMayBeRefused may_give = (asking : Request → AskedAgent) (old : World)
    (conn place moment status : ℕ) → IsWaiting old
    → (look : MayLook may_give old conn place moment) → IsNextEvent look.from (heard.Bad status)
    → Settles (with_refusal look.from status moment place)
    → HasStep may_give asking old (world.look conn place moment)

-- The world may stop with the journal of its history, and a gate 0 after it.
abbrev pub WorldsMayStop : (ℕ → Type 0) → Type 0
WorldsMayStop may_give = (asking : Request → AskedAgent) (old : World) → IsWaiting old
    → HasStep may_give asking old (world.stop (journal_of old.keeper.history ++ 0 ∷ []))
