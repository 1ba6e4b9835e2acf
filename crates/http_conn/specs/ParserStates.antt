-- The states of a connection, and the texts that they represent.
use Rattle.std.specs.Prelude.{◌≡◌, ℕ, ◌≤◌, List, ◌++◌, length, drop}
use Rattle.pod_base.specs.declared.request.Request.{Request}
use Rattle.pod_base.specs.declared.heard.Heard.{Heard}
use Rattle.http_head.specs.declared.head_ends.HeadEnd.TheVariants.{NotYet}
use Rattle.http_head.specs.declared.body_form.BodyForm.{BodyForm}
use Rattle.http_head.specs.HeadEnds.{head_end}
use Rattle.http_head.specs.HeadScan.{HasScanned}
use Rattle.http_payload.specs.Bodies.{IsPartial as IsPartialBody}
use Rattle.http_payload.specs.PayloadState as payload
use Rattle.http_conn.specs.Messages.{HasHead, Requests, IsOpen, Messages, events_of, interim_of}
use Rattle.http_conn.specs.Messages.{rest_length}
use Rattle.http_conn.specs.declared.parser_state.ParserState.{ParserState}
use Rattle.http_conn.specs.declared.parser_state.ParserState.TheVariants.{Head, Body, Closed}
use Rattle.http_conn.specs.declared.parser_state.ParserState.TheVariants.{Failed}
use Rattle.http_conn.specs.declared.parser_state.PartialHead.{PartialHead}
use Rattle.http_conn.specs.declared.parser_state.PartialBody.{PartialBody}

-- what is true of each connection: the search of an open head has seen its bytes so far, and found
-- no end
abbrev pub IsSoundState : ParserState → Type 0
IsSoundState (Head partial) = (head_end partial.bytes ≡ NotYet)
    × HasScanned partial.search partial.bytes
IsSoundState (Body partial) = Unit {0}
IsSoundState Closed = Unit {0}
IsSoundState Failed = Unit {0}

-- Between messages or in a head: the text is requests, and then the bytes of that head.
pub record InHead (partial : PartialHead) (text : List ℕ) (events : List Heard) : Type 0 where
  pub requests : List Request
  pub reads : Requests text requests partial.bytes
  pub stays : IsOpen requests
  pub count : partial.count ≡ length requests
  pub is : events ≡ events_of requests
  pub not_yet : head_end partial.bytes ≡ NotYet
  pub seen : HasScanned partial.search partial.bytes

-- In a body: the text is requests, and then a head and a body that has not ended.
pub record InBody (partial : PartialBody) (text : List ℕ) (events : List Heard) : Type 0 where
  pub requests : List Request
  pub left : List ℕ
  pub reads : Requests text requests left
  pub stays : IsOpen requests
  pub count : partial.count ≡ length requests
  pub is : events ≡ events_of requests ++ interim_of partial.head.minor partial.head.fields
  pub head : ℕ
  pub form : BodyForm
  pub there : head ≤ length left
  pub begins : HasHead left head partial.head form
  pub body : IsPartialBody form (drop head left)
  pub represents : payload.RepresentsBody form partial.payload (drop head left)
  pub rest : partial.len ≡ rest_length left

-- No event follows, however the text goes on.
abbrev pub HasEnded : List ℕ → List Heard → Type 0
HasEnded text events = (more : List ℕ) → Messages (text ++ more) events 0

-- The state is that after this text, which has these events. Once out of memory it is that of no
-- text.
abbrev pub Represents : ParserState → List ℕ → List Heard → Type 0
Represents (Head partial) text events = InHead partial text events
Represents (Body partial) text events = InBody partial text events
Represents Closed text events = HasEnded text events
Represents Failed text events = ⊥

-- how many bytes of an unfinished message it keeps
abbrev pub rest_of : ParserState → ℕ
rest_of (Head partial) = rest_length partial.bytes
rest_of (Body partial) = partial.len
rest_of Closed = 0
rest_of Failed = 0
