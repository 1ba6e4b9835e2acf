-- The reply to a GET or HEAD that is granted: the row is shown, in a representation that the client
-- accepts and doesn't have, or the connection becomes a WebSocket.
use Rattle.std.specs.Prelude.{ℕ, List, Option, Some, None, codes}
use Rattle.pod_access.specs.AllowField.{allow_field}
use Rattle.pod_base.specs.declared.agent.Agent.{Agent}
use Rattle.pod_base.specs.declared.request.Request.{Request}
use Rattle.pod_base.specs.declared.response.Response.{Response}
use Rattle.conditional_req.specs.Conditions.{conditions}
use Rattle.conditional_req.specs.declared.precondition_verdict.Verdict.{Verdict}
use Rattle.conditional_req.specs.declared.precondition_verdict.Verdict.TheVariants as verdicts
use Rattle.pod_command.specs.declared.row.Row.{Row}
use Rattle.pod_representations.specs.Offers.{chosen}
use Rattle.pod_representations.specs.Preconditions.{read_verdict}
use Rattle.pod_representations.specs.ReadResponses.{read_response}
use Rattle.pod_representations.specs.Representations.{represented}
use Rattle.pod_representations.specs.declared.row_offers.Media.{Media}
use Rattle.pod_representations.specs.declared.representation.Shown.{Shown}
use Rattle.pod_responses.specs.Responses.{refusal, not_modified, upgraded}
use Rattle.pod_rows.specs.Pod.{Pod, row_at}
use Rattle.request_fields.specs.Upgrades.{upgrade_key}
use Rattle.websocket.specs.Handshake.{accept_key_of}

module _ (pod : Pod) (request : Request) (path : List ℕ) (agent : Agent) where
  -- by the verdict on the preconditions
  abbrev pub judged_read : Shown → Verdict → Response
  judged_read shown verdicts.NotModified = not_modified shown.tag.0 shown.modified.0
  judged_read shown verdicts.Failed = refusal 412 (codes "condition")
  judged_read shown verdicts.Go = read_response pod.base path shown (allow_field pod agent path)
      request.method request.fields

  -- by the offer that is chosen
  abbrev pub chosen_read : Row → Option Media → Response
  chosen_read row None = refusal 406 (codes "accept")
  chosen_read row (Some media) = let shown = represented pod row media in
      judged_read shown (read_verdict (conditions request.fields) request.method shown)

  -- An upgrade is answered before a representation is chosen, by 101: the connection becomes a
  -- WebSocket.
  abbrev pub row_read : Row → Option (List ℕ) → Response
  row_read row (Some key) = upgraded (accept_key_of key)
  row_read row None = chosen_read row (chosen row request.fields)

  abbrev pub found_read : Option Row → Response
  found_read None = refusal 404 (codes "missing")
  found_read (Some row) = row_read row (upgrade_key request)

-- The response to a granted GET or HEAD of a path.
unfoldable pub read_reply : Pod → Request → List ℕ → Agent → Response
read_reply pod request path agent = found_read pod request path agent (row_at pod.rows path)
