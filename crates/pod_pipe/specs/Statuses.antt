-- How a connection ends, and what it has read, written and reported then.
use Rattle.std.specs.Prelude.{◌≡◌, ◌⊎◌, ℕ, ◌^◌, ◌<◌, ◌≤◌, Bool, List, [], ◌++◌, length}
use Rattle.std.specs.Prelude.{Option, Some, None, true, false, codes, decimal}
use Rattle.http_conn.specs.Messages.{Messages, AreFirstEvents, StaysOpen}
use Rattle.http_conn.specs.declared.events.TheConstants.{REQUEST_LIMIT}
use Rattle.pod_io.specs.Writing.{AddsOrPart, AddsPart, ExtendsBy}
use Rattle.pod_base.specs.declared.heard.Heard.{Heard}
use Rattle.pod_base.specs.declared.request.Request.{Request}
use Rattle.pod_core.specs.History.{History}
use Rattle.pod_core.specs.Session.{Item, Session, requests_of, bad_status}
use Rattle.token_table.specs.Credentials.{AskedAgent}
use Rattle.pod_pipe.specs.Streams.{Reads, AtEnd}
use Rattle.pod_pipe.specs.Served.{IsServed, IsStopped}
use Rattle.pod_pipe.specs.declared.status.PipeEnd.{PipeEnd}
use Rattle.pod_pipe.specs.declared.status.PipeEnd.TheVariants.{Peer, Cut, Closed, Limit, Upgraded}
use Rattle.pod_pipe.specs.declared.status.PipeEnd.TheVariants.{Bad, ReadFault, WriteFault, NoMemory}
use Rattle.pod_pipe.specs.declared.status.PipeEnd.TheVariants.{ReadLimit}

-- the status of each end
abbrev pub status_of : PipeEnd → ℕ
status_of Peer = 0
status_of Closed = 0
status_of Limit = 0
status_of Upgraded = 0
status_of ReadFault = 3
status_of WriteFault = 4
status_of NoMemory = 7
status_of (Cut rest) = 12
status_of (Bad status) = 13
status_of ReadLimit = 14

-- a last request ended the connection: it asks for that, or it is the 10,000th
abbrev pub IsLastHeard : List Heard → Type 0
IsLastHeard heard = (StaysOpen 0 heard → ⊥) × (bad_status heard ≡ None)

-- the events of the bytes begin with these
abbrev pub Hears : List ℕ → List Heard → Type 0
Hears read heard = (all : List Heard) × (rest : ℕ) × Messages read all rest
    × ((more : List Heard) × (all ≡ heard ++ more))

-- the events of a prefix of the bytes begin with these, and so does each parse of all of them
pub record HearsFirst (read : List ℕ) (heard : List Heard) : Type 0 where
  pub front : AreFirstEvents read heard
  pub whole : (all : List Heard) (rest : ℕ) → Messages read all rest → (more : List Heard)
      × (all ≡ heard ++ more)

-- The events of the bytes that were read, and the input that is left, by how the connection ended.
-- Out of memory, the last of these bytes may not be parsed. More events may follow a request that
-- switched protocols.
abbrev pub IsHeard : PipeEnd → List ℕ → List Heard → Option (List ℕ) → Type 0
IsHeard Peer read heard left = Messages read heard 0 × StaysOpen 0 heard × AtEnd left
IsHeard (Cut rest) read heard left = Messages read heard rest × (0 < rest) × StaysOpen 0 heard
    × AtEnd left
IsHeard Closed read heard left = Messages read heard 0 × IsLastHeard heard
    × (length (requests_of heard) < REQUEST_LIMIT)
IsHeard Limit read heard left = Messages read heard 0 × IsLastHeard heard
    × (length (requests_of heard) ≡ REQUEST_LIMIT)
IsHeard Upgraded read heard left = (rest : ℕ) × Messages read heard rest
IsHeard (Bad status) read heard left = Messages read heard 0 × (bad_status heard ≡ Some status)
IsHeard ReadFault read heard left = (rest : ℕ) × Messages read heard rest × StaysOpen 0 heard
IsHeard ReadLimit read heard left = (rest : ℕ) × Messages read heard rest × StaysOpen 0 heard
    × (2 ^ 40 ≤ length read)
IsHeard WriteFault read heard left = Hears read heard
IsHeard NoMemory read heard left = HearsFirst read heard

module _ (may_give : ℕ → Type 0) (asking : Request → AskedAgent) (trails : Bool) (begun : History)
    (leaves : List Item → Type 0) where
  -- What was written for the events, and the trail. All were served, up to a request that switched
  -- protocols where one did; where a write failed or memory ran out, they are prefixes of those of
  -- a session.
  abbrev pub IsWritten : PipeEnd → List Heard → List ℕ → List ℕ → Type 0
  IsWritten WriteFault heard written trail =
      IsStopped may_give asking trails begun leaves heard written trail
  IsWritten NoMemory heard written trail =
      IsStopped may_give asking trails begun leaves heard written trail
  IsWritten Upgraded heard written trail =
      IsServed may_give asking trails begun leaves true heard written trail
  IsWritten _ heard written trail =
      IsServed may_give asking trails begun leaves false heard written trail

  -- that session
  abbrev pub written_session : (end : PipeEnd) (heard : List Heard) (written trail : List ℕ)
      → IsWritten end heard written trail → Session
  written_session Peer heard written trail w = w.session
  written_session (Cut rest) heard written trail w = w.session
  written_session Closed heard written trail w = w.session
  written_session Limit heard written trail w = w.session
  written_session Upgraded heard written trail w = w.session
  written_session (Bad status) heard written trail w = w.session
  written_session ReadFault heard written trail w = w.session
  written_session ReadLimit heard written trail w = w.session
  written_session WriteFault heard written trail w = w.session
  written_session NoMemory heard written trail w = w.session

  -- The input returned the bytes that were read, the output has those that were written, and the
  -- error sink the trail: those of a session over the events.
  pub record Pipes (end : PipeEnd) (old_input new_input old_output new_output old_errors new_errors
      : Option (List ℕ)) : Type 0 where
    pub read : List ℕ
    pub heard : List Heard
    pub written : List ℕ
    pub trail : List ℕ
    pub reads : Reads read old_input new_input
    pub hears : IsHeard end read heard new_input
    pub serves : IsWritten end heard written trail
    pub writes : ExtendsBy written old_output new_output
    pub trails_too : ExtendsBy trail old_errors new_errors

-- the last line on the error sink
abbrev pub end_line : PipeEnd → List ℕ
end_line Peer = codes "end: peer\n"
end_line Closed = codes "end: closed\n"
end_line Limit = codes "end: limit\n"
end_line Upgraded = codes "end: upgraded\n"
end_line (Cut rest) = codes "end: cut " ++ decimal rest ++ codes "\n"
end_line (Bad status) = codes "end: bad " ++ decimal status ++ codes "\n"
end_line _ = []

-- What the error sink has after the trail: the line of the end, or a part of it where its count
-- increased. A line of status 0 that fails makes the end a write fault; another that fails changes
-- nothing. After another write fault no line follows.
abbrev pub ReportsEnd : PipeEnd → Option (List ℕ) → Option (List ℕ) → ℕ → ℕ → Type 0
ReportsEnd Peer old new before after = ExtendsBy (end_line Peer) old new
ReportsEnd Closed old new before after = ExtendsBy (end_line Closed) old new
ReportsEnd Limit old new before after = ExtendsBy (end_line Limit) old new
ReportsEnd Upgraded old new before after = ExtendsBy (end_line Upgraded) old new
ReportsEnd (Cut rest) old new before after = AddsOrPart (end_line (Cut rest)) old new before after
ReportsEnd (Bad status) old new before after = AddsOrPart (end_line (Bad status)) old new before after
ReportsEnd WriteFault old new before after = (new ≡ old) ⊎ ((end : PipeEnd) × (status_of end ≡ 0)
    × AddsPart (end_line end) old new before after)
ReportsEnd NoMemory old new before after = new ≡ old
ReportsEnd ReadFault old new before after = new ≡ old
ReportsEnd ReadLimit old new before after = new ≡ old

-- whether the end has a line
abbrev pub IsTold : PipeEnd → Type 0
IsTold ReadFault = ⊥
IsTold WriteFault = ⊥
IsTold NoMemory = ⊥
IsTold ReadLimit = ⊥
IsTold _ = Unit {0}

-- it is an end of status 0, the only one whose line may fail
abbrev pub IsDone : PipeEnd → Type 0
IsDone Peer = Unit {0}
IsDone Closed = Unit {0}
IsDone Limit = Unit {0}
IsDone Upgraded = Unit {0}
IsDone _ = ⊥

-- internal: its line has a number
abbrev pub LineHasNumber : PipeEnd → Type 0
LineHasNumber (Cut rest) = Unit {0}
LineHasNumber (Bad status) = Unit {0}
LineHasNumber _ = ⊥

-- How a connection ends that ended so: where the line of an end of status 0 can't be written, that
-- is a write fault.
abbrev pub ComesOf : PipeEnd → PipeEnd → Type 0
ComesOf end told = (told ≡ end) ⊎ (IsDone end × (told ≡ WriteFault))

module _ (may_give : ℕ → Type 0) (asking : Request → AskedAgent) (trails : Bool) (begun : History)
    (leaves : List Item → Type 0) where
  -- The same with the last line after the trail. And the bytes written are a prefix of those of the
  -- same session over each parse of the bytes read.
  pub record PipesAndTells (end : PipeEnd) (old_input new_input old_output new_output old_errors
      new_errors : Option (List ℕ)) (before after : ℕ) : Type 0 where
    pub trailed : Option (List ℕ)
    pub pipes : Pipes may_give asking trails begun leaves end old_input new_input old_output
        new_output old_errors trailed
    pub tells : ReportsEnd end trailed new_errors before after
    pub over_all : (all : List Heard) (rest : ℕ) → Messages pipes.read all rest
        → (stops : IsStopped may_give asking trails begun leaves all pipes.written pipes.trail)
        × (stops.session ≡ written_session may_give asking trails begun leaves end pipes.heard
        pipes.written pipes.trail pipes.serves)
