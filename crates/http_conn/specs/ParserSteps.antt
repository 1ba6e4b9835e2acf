-- The steps of the parser, from state to state.
use Rattle.std.specs.Prelude.{◌≡◌, ℕ, ◌+◌, ◌-◌, ◌*◌, ◌<◌, ◌≤◌, List, [], ◌∷◌, ◌++◌, length}
use Rattle.std.specs.Prelude.{Ok}
use Rattle.pod_base.specs.declared.request.Request.{Request}
use Rattle.pod_base.specs.declared.heard.Heard.{Heard}
use Rattle.http_head.specs.declared.head_ends.HeadEnd.TheVariants.{Whole}
use Rattle.http_head.specs.declared.request_head.RequestHead.{RequestHead}
use Rattle.http_head.specs.declared.body_form.BodyForm.{BodyForm}
use Rattle.http_head.specs.HeadEnds.{head_end}
use Rattle.http_head.specs.Heads.{ParsesTo}
use Rattle.http_head.specs.BodyFraming.{framing}
use Rattle.http_conn.specs.Messages.{Requests, IsOpen, events_of, interim_of, rest_length}
use Rattle.http_conn.specs.Messages.{with_body}
use Rattle.http_conn.specs.ParserStates.{Represents}
use Rattle.http_conn.specs.declared.parser_state.ParserState.{ParserState}
use Rattle.http_conn.specs.declared.parser_state.ParserState.TheVariants.{Head, Body, Closed}
use Rattle.http_conn.specs.declared.parser_state.ParserState.TheVariants.{Failed}

-- a body that has ended needs no more bytes for a step
abbrev pub measure : ParserState → ℕ
measure (Head partial) = 0
measure (Body partial) = 1
measure Closed = 0
measure Failed = 0

-- So many of the bytes were parsed, and fewer steps are left.
pub record MakesProgress (old : ParserState) (len taken : ℕ) (new : ParserState) : Type 0 where
  pub within : taken ≤ len
  pub fewer : 2 * (len - taken) + measure new < 2 * len + measure old

-- These bytes lead from the old state to the new one, and the events since some moment grow.
abbrev pub StepsTo : ParserState → List Heard → List ℕ → ParserState → List Heard → Type 0
StepsTo old old_events bytes new events =
    (text : List ℕ) (before : List Heard) → Represents old text (before ++ old_events)
    → Represents new (text ++ bytes) (before ++ events)

-- The text is so many requests and then what is left, with these events since some moment.
pub record RequestsThen (count : ℕ) (left : List ℕ) (before old_events : List Heard)
    (text : List ℕ) : Type 0 where
  pub requests : List Request
  pub reads : Requests text requests left
  pub stays : IsOpen requests
  pub count_is : count ≡ length requests
  pub is : before ++ old_events ≡ events_of requests

-- What is left after requests leads to the new state.
abbrev pub StepsAfter : ℕ → List ℕ → List Heard → ParserState → List Heard → Type 0
StepsAfter count left old_events new events =
    (text : List ℕ) (before : List Heard) → RequestsThen count left before old_events text
    → Represents new text (before ++ events)

-- A head of that meaning, and nothing else, is left after requests.
abbrev pub StepsAfterHead : ℕ → ℕ → RequestHead → List Heard → ParserState → List Heard → Type 0
StepsAfterHead count len parsed old_events new events =
    (left : List ℕ) → head_end left ≡ Whole (length left) → ParsesTo left parsed
    → len ≡ rest_length left
    → StepsAfter count left old_events new events

-- The head of a body of that form, and nothing else, is left after requests.
abbrev pub StartsBody : ℕ → ℕ → RequestHead → BodyForm → List Heard → ParserState → List Heard
    → Type 0
StartsBody count len parsed form old_events new events =
    (left : List ℕ) → head_end left ≡ Whole (length left) → ParsesTo left parsed
    → framing parsed.minor parsed.fields ≡ Ok form → len ≡ rest_length left
    → StepsAfter count left old_events new events

-- A complete request was left after requests, and the event of its interim came before.
abbrev pub EndsRequest : ℕ → RequestHead → List ℕ → List Heard → ParserState → List Heard → Type 0
EndsRequest count parsed body old_events new events =
    (text : List ℕ) (before : List Heard) (requests : List Request)
    → Requests text (requests ++ with_body parsed body ∷ []) [] → IsOpen requests
    → count ≡ length requests
    → before ++ old_events ≡ events_of requests ++ interim_of parsed.minor parsed.fields
    → Represents new text (before ++ events)
