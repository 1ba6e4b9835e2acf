-- The messages of a connection's bytes (RFC 9112): the whole text split into requests, and what is
-- left after them.
use Rattle.std.specs.Prelude.{◌≡◌, ◌⊎◌, ℕ, ◌+◌, ◌-◌, ◌<◌, ◌≤◌, Bool, true, false, if◌then◌else◌}
use Rattle.std.specs.Prelude.{List, [], ◌∷◌, ◌++◌, length, take, drop, Result, Ok, Err}
use Rattle.std.specs.List.{flat_map, AllByRecursion}
use mathlib.Core.List.{IsPrefix}
use Rattle.pod_base.specs.declared.field.Field.{Field}
use Rattle.pod_base.specs.declared.request.Request.{Request}
use Rattle.pod_base.specs.declared.heard.Heard.{Heard}
use Rattle.pod_base.specs.declared.heard.Heard.TheVariants as heard
use Rattle.http_head.specs.declared.head_ends.HeadEnd.TheVariants.{Whole, NotYet, TooLong}
use Rattle.http_head.specs.declared.request_head.RequestHead.{RequestHead}
use Rattle.http_head.specs.declared.body_form.BodyForm.{BodyForm}
use Rattle.http_head.specs.declared.body_framing.FramingFault.{FramingFault}
use Rattle.http_head.specs.declared.body_framing.FramingFault.TheVariants as framing_fault
use Rattle.http_head.specs.HeadEnds.{blank_length, head_end}
use Rattle.http_head.specs.Heads.{HasTooManyLines, IsMalformedHead, LacksHost, ParsesTo}
use Rattle.http_head.specs.BodyFraming.{framing}
use Rattle.http_head.specs.Persistence.{closes}
use Rattle.http_head.specs.Expectation.{expects_continue}
use Rattle.http_payload.specs.declared.payload_fault.PayloadFault.{PayloadFault}
use Rattle.http_payload.specs.declared.payload_fault.PayloadFault.TheVariants as payload_fault
use Rattle.http_payload.specs.Bodies.{IsBody, IsFault, IsPartial as IsPartialBody}
use Rattle.http_conn.specs.declared.events.TheConstants.{REQUEST_LIMIT}

-- ---- one request

-- The text begins with a head of that length and meaning, and a body of that form follows it.
pub record HasHead (text : List ℕ) (len : ℕ) (parsed : RequestHead) (form : BodyForm) : Type 0 where
  pub ends : head_end text ≡ Whole len
  pub says : ParsesTo (take len text) parsed
  pub framed : framing parsed.minor parsed.fields ≡ Ok form

-- the request of a head and a body
abbrev pub with_body : RequestHead → List ℕ → Request
with_body parsed body =
    record {
      method = parsed.method;
      target = parsed.target;
      minor = parsed.minor;
      fields = parsed.fields;
      body = body;
    }

-- The first len bytes of the text are a request: a head, and after it a body of so many bytes.
pub record IsFirstRequest (text : List ℕ) (request : Request) (len : ℕ) : Type 0 where
  pub head : ℕ
  pub parsed : RequestHead
  pub form : BodyForm
  pub begins : HasHead text head parsed form
  pub size : ℕ
  pub body : List ℕ
  pub is_body : IsBody form (take size (drop head text)) body
  pub there : len ≤ length text
  pub ends : len ≡ head + size
  pub is : request ≡ with_body parsed body

-- The text is these requests, one after the other, and then what is left.
abbrev pub Requests : List ℕ → List Request → List ℕ → Type 0
Requests text [] left = text ≡ left
Requests text (request ∷ requests) left =
    (len : ℕ) × IsFirstRequest text request len × Requests (drop len text) requests left

-- ---- the events of requests

-- whether a head of that framing waits for `100 Continue` (RFC 9110, section 10.1.1)
abbrev pub waits_for : ℕ → List Field → Result BodyForm FramingFault → Bool
waits_for minor fields (Ok form) = expects_continue minor fields form
waits_for minor fields (Err fault) = false

-- the events between a head and its body
abbrev pub interim_of : ℕ → List Field → List Heard
interim_of minor fields =
    if waits_for minor fields (framing minor fields) then heard.Interim ∷ [] else []

-- the events of a request, and of requests
abbrev pub request_events : Request → List Heard
request_events request = interim_of request.minor request.fields ++ heard.Request request ∷ []

abbrev pub events_of : List Request → List Heard
events_of requests = flat_map request_events requests

-- ---- a malformed message

-- No text that begins so begins with a request, since of its head: the status of the refusal.
pub data IsBadHead (text : List ℕ) : ℕ → Type 0 where
  too_long : head_end text ≡ TooLong → IsBadHead text 431
  too_many : (len : ℕ) → head_end text ≡ Whole len → HasTooManyLines (take len text)
      → IsBadHead text 431
  malformed : (len : ℕ) → head_end text ≡ Whole len → IsMalformedHead (take len text)
      → IsBadHead text 400
  host : (len : ℕ) → head_end text ≡ Whole len → LacksHost (take len text) → IsBadHead text 400
  conflict : (len : ℕ) (parsed : RequestHead) → head_end text ≡ Whole len
      → ParsesTo (take len text) parsed
      → framing parsed.minor parsed.fields ≡ Err framing_fault.Conflict → IsBadHead text 400
  coding : (len : ℕ) (parsed : RequestHead) → head_end text ≡ Whole len
      → ParsesTo (take len text) parsed
      → framing parsed.minor parsed.fields ≡ Err framing_fault.Coding → IsBadHead text 501
  too_large : (len : ℕ) (parsed : RequestHead) → head_end text ≡ Whole len
      → ParsesTo (take len text) parsed
      → framing parsed.minor parsed.fields ≡ Err framing_fault.TooLarge → IsBadHead text 413

-- the status that refuses a body. No body is at fault for being out of memory.
abbrev pub refusal_status : PayloadFault → ℕ
refusal_status payload_fault.Malformed = 400
refusal_status payload_fault.TooLarge = 413
refusal_status payload_fault.NoMemory = 500

-- No text that begins so begins with a request: the events before the refusal, and its status.
pub data IsBadMessage (text : List ℕ) : List Heard → ℕ → Type 0 where
  bad_head : (status : ℕ) → IsBadHead text status → IsBadMessage text [] status
  bad_body : (len : ℕ) (parsed : RequestHead) (form : BodyForm) (fault : PayloadFault)
      → HasHead text len parsed form
      → IsFault form (drop len text) fault
      → IsBadMessage text (interim_of parsed.minor parsed.fields) (refusal_status fault)

-- the statuses of refusals
abbrev pub IsRefusalStatus : ℕ → Type 0
IsRefusalStatus status = (status ≡ 400) ⊎ ((status ≡ 413) ⊎ ((status ≡ 431) ⊎ (status ≡ 501)))

-- an event that is a refusal has such a status
abbrev pub HasRefusalStatus : Heard → Type 0
HasRefusalStatus (heard.Request request) = Unit {0}
HasRefusalStatus heard.Interim = Unit {0}
HasRefusalStatus (heard.Bad status) = IsRefusalStatus status

-- ---- an unfinished message

-- how long an unfinished message is, without the empty lines before it
abbrev pub rest_length : List ℕ → ℕ
rest_length text = length text - blank_length text

-- The text is less than a request, since its head has not ended, or its body: its events.
pub data IsPartialMessage (text : List ℕ) : List Heard → Type 0 where
  in_head : head_end text ≡ NotYet → IsPartialMessage text []
  in_body : (len : ℕ) (parsed : RequestHead) (form : BodyForm) → HasHead text len parsed form
      → IsPartialBody form (drop len text)
      → IsPartialMessage text (interim_of parsed.minor parsed.fields)

-- ---- all messages

-- whether a request closes its connection
abbrev pub closes_connection : Request → Bool
closes_connection request = closes request.minor request.fields

-- whether a request that so many others precede is the last of its connection
abbrev pub IsLastRequest : ℕ → Request → Type 0
IsLastRequest count request = (closes_connection request ≡ true) ⊎ (count + 1 ≡ REQUEST_LIMIT)

-- More events may follow these requests.
pub record IsOpen (requests : List Request) : Type 0 where
  pub few : length requests < REQUEST_LIMIT
  pub stays : AllByRecursion (λ request. closes_connection request ≡ false) requests

-- The events of the text, and the length of the unfinished message at its end.
pub data Messages (text : List ℕ) : List Heard → ℕ → Type 0 where
  unfinished : (requests : List Request) (left : List ℕ) (events : List Heard)
      → Requests text requests left
      → IsOpen requests → IsPartialMessage left events
      → Messages text (events_of requests ++ events) (rest_length left)
  refused : (requests : List Request) (left : List ℕ) (events : List Heard) (status : ℕ)
      → Requests text requests left
      → IsOpen requests → IsBadMessage left events status
      → Messages text (events_of requests ++ (events ++ heard.Bad status ∷ [])) 0
  ended : (requests : List Request) (last : Request) (left : List ℕ)
      → Requests text (requests ++ last ∷ []) left
      → IsOpen requests → IsLastRequest (length requests) last
      → Messages text (events_of (requests ++ last ∷ [])) 0

-- ---- laws

-- No event follows a request that closes, the last of so many, and a refusal; count requests
-- precede these events.
abbrev pub NothingAfterEnd : ℕ → List Heard → Type 0
NothingAfterEnd count [] = Unit {0}
NothingAfterEnd count (heard.Interim ∷ events) = NothingAfterEnd count events
NothingAfterEnd count (heard.Request request ∷ events) =
    (IsLastRequest count request → events ≡ []) × NothingAfterEnd (count + 1) events
NothingAfterEnd count (heard.Bad status ∷ events) = events ≡ []

-- None of these events is such an end; count requests precede them.
abbrev pub StaysOpen : ℕ → List Heard → Type 0
StaysOpen count [] = Unit {0}
StaysOpen count (heard.Interim ∷ events) = StaysOpen count events
StaysOpen count (heard.Request request ∷ events) = (IsLastRequest count request
    → ⊥) × StaysOpen (count + 1) events
StaysOpen count (heard.Bad status ∷ events) = ⊥

-- The events of a prefix of the text begin with these.
pub record AreFirstEvents (text : List ℕ) (events : List Heard) : Type 0 where
  pub prefix : List ℕ
  pub is_prefix : IsPrefix prefix text
  pub all : List Heard
  pub rest : ℕ
  pub messages : Messages prefix all rest
  pub first : IsPrefix events all
