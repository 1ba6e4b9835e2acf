-- Access to a request: what it needs is granted, with a basis for each need, or it is refused (Web
-- Access Control; RFC 9110, sections 15.5.2 and 15.5.4).
use Rattle.std.specs.Prelude.{List, Option, Some, None, Result, Ok, Err, codes}
use Rattle.pod_base.specs.declared.agent.Agent.{Agent}
use Rattle.pod_base.specs.declared.agent.Agent.TheVariants.{Public, Known}
use Rattle.pod_base.specs.declared.response.Response.{Response}
use Rattle.pod_access.specs.Bases.{bases_of}
use Rattle.pod_command.specs.declared.basis.Basis.{Basis}
use Rattle.pod_responses.specs.Responses.{refusal, unauthorized}
use Rattle.pod_rows.specs.Pod.{Pod}
use Rattle.pod_access.specs.Needs.{needs_of}
use Rattle.pod_access.specs.declared.request_needs.Shape.{Shape}

-- 401 for anybody, 403 for a known agent.
abbrev pub access_refusal : Agent → Response
access_refusal Public = unauthorized (codes "access")
access_refusal (Known agent) = refusal 403 (codes "access")

abbrev pub unless_denied : Agent → Option (List Basis) → Result (List Basis) Response
unless_denied agent (Some bases) = Ok bases
unless_denied agent None = Err (access_refusal agent)

-- The bases of a request of this shape, in the order of its needs, or its refusal.
abbrev pub access_of : Pod → Agent → Shape → Result (List Basis) Response
access_of pod agent shape = unless_denied agent (bases_of pod agent (needs_of shape))
