-- The bytes that a session writes.
use Rattle.std.specs.Prelude.{ℕ, Bool, true, ◌==◌, ◌||◌, if◌then◌else◌, List, [], ◌∷◌, ◌++◌, codes}
use Rattle.std.specs.Prelude.{Option, Some, None}
use Rattle.http_conn.specs.Messages.{closes_connection}
use Rattle.http_conn.specs.declared.events.TheConstants.{REQUEST_LIMIT}
use Rattle.http_out.specs.Text.{response_text, interim_text, memory_text, disk_text}
use Rattle.http_out.specs.Calendar.{date_text}
use Rattle.pod_base.specs.declared.heard.Heard.{Heard}
use Rattle.pod_base.specs.declared.heard.Heard as heard
use Rattle.pod_base.specs.declared.request.Request.{Request}
use Rattle.pod_base.specs.declared.response.Response.{Response}
use Rattle.pod_responses.specs.Responses.{refusal}
use Rattle.pod_core.specs.Session.{Outcome, answered, no_memory, disk_fault, Item, Session}
use Rattle.pod_core.specs.Session.{upgrades}

-- whether the connection closes after a request of that number: it asks for that, or it is the last
-- of a connection
abbrev pub closes_after : Request → ℕ → Bool
closes_after request number = closes_connection request || number == REQUEST_LIMIT

-- the bytes of an item's outcome, with the date of its moment
abbrev pub outcome_text : Item → Outcome → List ℕ
outcome_text item (answered place reply) = response_text reply.response (date_text item.moment)
    (closes_after item.request item.number)
outcome_text item no_memory = memory_text
outcome_text item disk_fault = disk_text

abbrev pub item_text : Item → List ℕ
item_text item = outcome_text item item.outcome

-- the word of the refusal of a malformed message
abbrev pub refusal_word : ℕ → List ℕ
refusal_word status =
    if status == 400 then codes "message"
    else if status == 413 then codes "body-size"
    else if status == 431 then codes "head-size"
    else codes "coding"

abbrev pub refusal_of : ℕ → Response
refusal_of status = refusal status (refusal_word status)

-- the refusal of a malformed message, where there is one
abbrev pub refusal_text : ℕ → Option ℕ → List ℕ
refusal_text status (Some moment) = response_text (refusal_of status) (date_text moment) true
refusal_text status None = []

-- In the order of the events: the interims up to the first request without an item, and for each
-- request the bytes of its item. After all items comes the refusal, where there is one. Nothing
-- follows a switch of protocols.
abbrev pub output_of : List Heard → List Item → Option ℕ → List ℕ
output_of [] items refused = []
output_of (heard.TheVariants.Interim ∷ others) items refused =
    interim_text ++ output_of others items refused
output_of (heard.TheVariants.Request request ∷ others) [] refused = []
output_of (heard.TheVariants.Request request ∷ others) (item ∷ items) refused =
    item_text item ++ (if upgrades item.outcome then [] else output_of others items refused)
output_of (heard.TheVariants.Bad status ∷ others) items refused = refusal_text status refused

abbrev pub output : List Heard → Session → List ℕ
output events session = output_of events session.items session.refusal
