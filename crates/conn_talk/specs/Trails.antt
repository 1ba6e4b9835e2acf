-- The trail of a session: a line for each request that was answered.
use Rattle.std.specs.Prelude.{ℕ, Bool, if◌then◌else◌, List, []}
use Rattle.std.specs.List.{flat_map}
use Rattle.audit_trail.specs.Lines.{session_line}
use Rattle.pod_core.specs.Session.{Outcome, answered, no_memory, disk_fault, Item}
use Rattle.pod_reply.specs.Reply.{agent_of}

-- the line of an item that was answered; of another there is none
abbrev pub line_on : Item → Outcome → List ℕ
line_on item (answered place reply) = session_line place (record { 0 = item.moment })
    (agent_of item.asked) item.request reply.response.status
line_on item no_memory = []
line_on item disk_fault = []

-- the same where the trail is enabled
abbrev pub line_of : Bool → Item → List ℕ
line_of trails item = if trails then line_on item item.outcome else []

abbrev pub trail_of : Bool → List Item → List ℕ
trail_of trails items = flat_map (line_of trails) items
