-- What one connection of many reads and writes, and how it ends.
use Rattle.std.specs.Prelude.{◌≡◌, ◌⊎◌, ℕ, ◌+◌, ◌-◌, ◌^◌, ◌<◌, ◌≤◌, Bool, true, false}
use Rattle.std.specs.Prelude.{if◌then◌else◌, List, [], ◌∷◌, ◌++◌, length, Option, Some, None}
use mathlib.Core.List.{IsPrefix}
use Rattle.http_conn.specs.Messages.{Messages, StaysOpen}
use Rattle.http_conn.specs.declared.events.TheConstants.{REQUEST_LIMIT}
use Rattle.pod_io.specs.Writing.{ExtendsBy}
use Rattle.pod_base.specs.Counts.{CountIncreased}
use Rattle.pod_base.specs.declared.heard.Heard.{Heard}
use Rattle.pod_base.specs.declared.heard.Heard.TheVariants as heard
use Rattle.pod_base.specs.declared.request.Request.{Request}
use Rattle.pod_command.specs.declared.entry.Entry.{Entry}
use Rattle.pod_core.specs.History.{History, end_of, longer}
use Rattle.pod_core.specs.Output.{output_of}
use Rattle.pod_core.specs.Session.{Outcome, answered, no_memory, disk_fault, Item, Session}
use Rattle.pod_core.specs.Session.{IsSession, IsWhole, bad_status, ends_upgraded, entries_of}
use Rattle.pod_core.specs.Session.{requests_of}
use Rattle.pod_io.specs.Counts.{next_count}
use Rattle.pod_io.specs.declared.link.LinkCounts.{LinkCounts}
use Rattle.pod_live.specs.Visits.{Visit}
use Rattle.pod_pipe.specs.Statuses.{Hears, HearsFirst, IsLastHeard}
use Rattle.pod_pipe.specs.Streams.{AtEnd, Reads}
use Rattle.conn_talk.specs.Walks.{Walk}
use Rattle.reply_laws.specs.Granted.{is_change}
use Rattle.token_table.specs.Credentials.{AskedAgent}
use Rattle.pod_serve.specs.declared.requests_end.RequestsEnd.{RequestsEnd}
use Rattle.pod_serve.specs.declared.requests_end.RequestsEnd.TheVariants as ends
use Rattle.pod_serve.specs.WorldRuns.{IsRun}
use Rattle.pod_serve.specs.declared.connection_end.TheConstants.{QUIET_LIMIT}

-- What a link shows: the bytes that are left to be read and those that it has sent, where it shows
-- them, and its counts.
pub record LinkView : Type 0 where
  pub rest : Option (List ℕ)
  pub sent : Option (List ℕ)
  pub counts : LinkCounts

abbrev pub link_view_of : {L : Type 0} → (L → Option (List ℕ)) → (L → Option (List ℕ))
    → (L → LinkCounts) → L → LinkView
link_view_of rest sent counts link =
    record { rest = rest link; sent = sent link; counts = counts link }

-- ---- what the items of a connection count

-- How many looks an item made: one where its request is no change, and one where it was answered.
abbrev pub looks_on : Request → Outcome → ℕ
looks_on request (answered place reply) = 1
looks_on request no_memory = if is_change request.method then 0 else 1
looks_on request disk_fault = if is_change request.method then 0 else 1

abbrev pub looks_in : List Item → ℕ
looks_in [] = 0
looks_in (item ∷ items) = looks_on item.request item.outcome + looks_in items

-- how many items added an entry
abbrev pub changes_in : List Item → ℕ
changes_in [] = 0
changes_in (item ∷ items) = length (entries_of item) + changes_in items

-- how many items met a disk fault
abbrev pub faults_on : Outcome → ℕ
faults_on (answered place reply) = 0
faults_on no_memory = 0
faults_on disk_fault = 1

abbrev pub faults_of_items : List Item → ℕ
faults_of_items [] = 0
faults_of_items (item ∷ items) = faults_on item.outcome + faults_of_items items

-- ---- what was read

-- The events of the bytes that were read, and the input that is left, by how the connection ended.
-- Where a write failed, or out of memory, they may be the first of them alone.
abbrev pub AreEventsRead : RequestsEnd → List ℕ → List Heard → Option (List ℕ) → Type 0
AreEventsRead ends.PeerEnded read heard left = Messages read heard 0 × StaysOpen 0 heard × AtEnd left
AreEventsRead (ends.CutShort rest) read heard left = Messages read heard rest × (0 < rest)
    × StaysOpen 0 heard × AtEnd left
AreEventsRead ends.Closed read heard left = Messages read heard 0 × IsLastHeard heard
    × (length (requests_of heard) < REQUEST_LIMIT)
AreEventsRead ends.LimitReached read heard left = Messages read heard 0 × IsLastHeard heard
    × (length (requests_of heard) ≡ REQUEST_LIMIT)
AreEventsRead ends.Upgraded read heard left = (rest : ℕ) × Messages read heard rest
AreEventsRead (ends.BadMessage status) read heard left = Messages read heard 0
    × (bad_status heard ≡ Some status)
AreEventsRead ends.Quiet read heard left = (rest : ℕ) × Messages read heard rest × StaysOpen 0 heard
AreEventsRead ends.NoPlace read heard left = (rest : ℕ) × Messages read heard rest
AreEventsRead ends.LinkFault read heard left = Hears read heard
AreEventsRead ends.NoMemory read heard left = HearsFirst read heard

-- ---- the reads of a connection

-- the bytes of pieces, one after the other
abbrev pub pieces_text : List (List ℕ) → List ℕ
pieces_text [] = []
pieces_text (piece ∷ pieces) = piece ++ pieces_text pieces

-- Each request of a text is one of the first `count` of its connection, and none of its events ends
-- the connection.
pub record IsTakenUp (count : ℕ) (text : List ℕ) : Type 0 where
  pub events : List Heard
  pub rest : ℕ
  pub messages : Messages text events rest
  pub stays : StaysOpen 0 events
  pub answered : length (requests_of events) ≤ count

-- What is read after a text, in pieces that have bytes. Before each of them all that was read until
-- then was taken up: the connection has `count` items, and an item for each of its requests.
abbrev pub ArePieces : ℕ → List ℕ → List (List ℕ) → Type 0
ArePieces count text [] = Unit {0}
ArePieces count text (piece ∷ pieces) = IsTakenUp count text × (0 < length piece)
    × ArePieces count (text ++ piece) pieces

-- All that was read, in pieces: one for each read of the link that gave bytes, in order. In a world
-- each is the event Arrive. So many of the reads that were counted found the end.
pub record IsReadIn (count ended : ℕ) (read : List ℕ) (old new : ℕ) : Type 0 where
  pub pieces : List (List ℕ)
  pub text : pieces_text pieces ≡ read
  pub in_turn : ArePieces count [] pieces
  pub counted : new < 2 ^ 64 - 1 → new ≡ old + (length pieces + ended)

-- how many reads found the end of a connection
abbrev pub end_reads : RequestsEnd → ℕ
end_reads ends.PeerEnded = 1
end_reads (ends.CutShort rest) = 1
end_reads _ = 0

-- ---- what was written

-- the items of a connection, and the moment at which a malformed message was refused
pub record Items : Type 0 where
  pub list : List Item
  pub refusal : Option ℕ

-- the session of these items over a history
abbrev pub session_of : ℕ → Items → History → Session
session_of conn items history = record {
  conn = conn;
  items = items.list;
  refusal = items.refusal;
  history = history;
}

-- All events have items, up to one that switched protocols where one did, and all of their output
-- was written.
pub record IsAllWritten (upgraded : Bool) (events : List Heard) (items : Items)
    (written : List ℕ) : Type 0 where
  pub whole : (history : History) (conn : ℕ) → IsWhole events (session_of conn items history)
  pub last : ends_upgraded items.list ≡ upgraded
  pub bytes : written ≡ output_of events items.list items.refusal

-- The first request without an item is no change. All output up to it was written.
pub record IsWrittenUpTo (events : List Heard) (items : Items) (written : List ℕ)
    : Type 0 where
  pub front : List Heard
  pub request : Request
  pub rest : List Heard
  pub events_are : front ++ heard.Request request ∷ rest ≡ events
  pub count : length items.list ≡ length (requests_of front)
  pub no_change : is_change request.method ≡ false
  pub refusal : items.refusal ≡ None
  pub bytes : written ≡ output_of events items.list None

-- A part of the output was written where a write failed, and all of it where a read did.
abbrev pub IsWrittenByFault : LinkCounts → LinkCounts → List ℕ → List Heard → Items → List ℕ
    → Type 0
IsWrittenByFault old new read events items written =
    (CountIncreased old.write_faults new.write_faults
    × IsPrefix written (output_of events items.list items.refusal))
    ⊎ (CountIncreased old.read_faults new.read_faults
    × ((rest : ℕ) × Messages read events rest) × IsAllWritten false events items written)

-- What was written of the output of the items, by how the connection ended.
abbrev pub IsWritten : RequestsEnd → LinkCounts → LinkCounts → List ℕ → List Heard → Items → List ℕ
    → Type 0
IsWritten ends.LinkFault old new read events items written =
    IsWrittenByFault old new read events items written
IsWritten ends.NoMemory old new read events items written =
    IsPrefix written (output_of events items.list items.refusal)
IsWritten ends.NoPlace old new read events items written =
    IsWrittenUpTo events items written
IsWritten ends.Upgraded old new read events items written =
    IsAllWritten true events items written
IsWritten _ old new read events items written = IsAllWritten false events items written

-- ---- why it ended

-- So many quiet times in a row were counted: the link has had so many in a row, and their count
-- increased by so many, unless it is at the last number that it can hold.
pub record AreQuiet (many : ℕ) (old new : LinkCounts) : Type 0 where
  pub row : many ≤ new.quiet_row
  pub counted : new.quiet < 2 ^ 64 - 1 → old.quiet + many ≤ new.quiet

-- Quiet times, faults and refused looks end a connection only where they were counted.
abbrev pub HasCause : RequestsEnd → LinkCounts → LinkCounts → Visit → Visit → Type 0
HasCause ends.Quiet old new before after = AreQuiet QUIET_LIMIT old new
HasCause ends.LinkFault old new before after = CountIncreased old.read_faults new.read_faults
    ⊎ CountIncreased old.write_faults new.write_faults
HasCause ends.NoPlace old new before after = CountIncreased before.refused after.refused
HasCause _ old new before after = Unit {0}

-- The reads that found the end: the last read of a connection that ended there, and no other. So
-- nothing is read after the end.
abbrev pub MeetsLinkEnd : RequestsEnd → ℕ → ℕ → Type 0
MeetsLinkEnd ends.PeerEnded old new = new ≡ next_count old
MeetsLinkEnd (ends.CutShort rest) old new = new ≡ next_count old
MeetsLinkEnd _ old new = new ≡ old

-- ---- a connection

-- `kept` are the histories that the store's keeper represented at its opening, which end at the
-- position `first`.
module _ (kept : History → Type 0) (first : ℕ) (may_give : ℕ → Type 0)
    (asking : Request → AskedAgent) where
  -- The connection of that number was served by a session, and ended so. The bytes that were
  -- written are the output of its items over the events of the bytes that were read, or a part of
  -- it. The items are a session over each history that was kept with any entries that continue
  -- those which the session has then seen, from what it had seen before on. In a world all of this
  -- is a run of events: an Arrive for each read, and a Look or a change's events for each item.
  pub record RequestsServed (conn : ℕ) (end : RequestsEnd) (before after : Visit) (old new : LinkView)
      : Type 0 where
    pub read : List ℕ
    pub events : List Heard
    pub written : List ℕ
    pub items : Items
    pub reads : Reads read old.rest new.rest
    pub arrivals : IsReadIn (length items.list) (end_reads end) read old.counts.reads
        new.counts.reads
    pub run : (all : List Heard) (rest : ℕ) → Messages read all rest → (place : ℕ)
        → place ≤ first + length before.seen → IsRun kept may_give asking conn after.seen place
        arrivals.pieces items.list items.refusal read all
    pub hears : AreEventsRead end read events new.rest
    pub walk : Walk kept first conn may_give before.seen items.list after.seen
    pub session : (history : History) → kept history → (list : List Entry)
        → IsPrefix after.seen list → IsSession may_give asking events
        (end_of (longer history before.seen)) (session_of conn items (longer history list))
        (end_of (longer history after.seen))
    pub writes : ExtendsBy written old.sent new.sent
    pub serves : IsWritten end old.counts new.counts read events items written
    pub looks : after.looks ≡ before.looks + looks_in items.list
    pub changes : after.changes ≡ before.changes + changes_in items.list
    pub faults : after.faults ≡ before.faults + faults_of_items items.list
    pub cause : HasCause end old.counts new.counts before after
    pub ended : MeetsLinkEnd end old.counts.ends new.counts.ends
