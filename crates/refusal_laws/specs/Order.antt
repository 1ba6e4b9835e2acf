-- The refusals that come before all that depends on the pod's rows, in their order.
use Rattle.std.specs.Prelude.{◌≡◌, ℕ, List, Result, Ok, Err}
use Rattle.pod_base.specs.declared.moment.Stamp.{Stamp}
use Rattle.pod_base.specs.declared.request.Request.{Request}
use Rattle.pod_base.specs.declared.response.Response.{Response}
use Rattle.pod_reply.specs.AccessRank.{access_of}
use Rattle.pod_reply.specs.Replies.{Reply, unchanged}
use Rattle.pod_reply.specs.Reply.{IsReply, agent_of, body_base, sent}
use Rattle.pod_reply.specs.Shapes.{shape_of}
use Rattle.pod_rows.specs.Pod.{Pod}
use Rattle.request_body.specs.Bodies.{Means}
use Rattle.request_body.specs.Refusals.{refusal_of}
use Rattle.request_body.specs.declared.fault.BodyFault.{BodyFault}
use Rattle.request_body.specs.declared.body.RequestBody.{RequestBody}
use Rattle.request_target.specs.Admission.{admitted}
use Rattle.request_target.specs.declared.target.Target.TheVariants.{Resource}
use Rattle.token_table.specs.Credentials.{AskedAgent}

-- each reply to the request is this refusal, which changes nothing
abbrev pub IsRefused : Pod → Request → AskedAgent → ℕ → Stamp → Response → Type 0
IsRefused pod request asked seq stamp response = (reply : Reply)
    → IsReply pod request asked seq stamp reply
    → reply ≡ sent request.method (unchanged response)

-- Target, token and method come first.
abbrev pub AdmissionComesFirst : Type 0
AdmissionComesFirst = (pod : Pod) (request : Request) (asked : AskedAgent) (seq : ℕ)
    (stamp : Stamp) (response : Response) → admitted pod.base request asked ≡ Err response
    → IsRefused pod request asked seq stamp response

-- what the body of a request for a path means
abbrev pub BodyMeans : Pod → Request → List ℕ → Result RequestBody BodyFault → Type 0
BodyMeans pod request path outcome =
    Means (body_base request.method pod request path) path request outcome

-- Then comes the body.
abbrev pub BodyComesSecond : Type 0
BodyComesSecond = (pod : Pod) (request : Request) (asked : AskedAgent) (seq : ℕ) (stamp : Stamp)
    (path : List ℕ) (fault : BodyFault) → admitted pod.base request asked ≡ Ok (Resource path)
    → BodyMeans pod request path (Err fault)
    → IsRefused pod request asked seq stamp (refusal_of request.method path fault)

-- Then comes access, before all else that depends on the pod.
abbrev pub AccessComesThird : Type 0
AccessComesThird = (pod : Pod) (request : Request) (asked : AskedAgent) (seq : ℕ) (stamp : Stamp)
    (path : List ℕ) (body : RequestBody) (response : Response)
    → admitted pod.base request asked ≡ Ok (Resource path)
    → BodyMeans pod request path (Ok body)
    → access_of pod (agent_of asked) (shape_of pod request path body) ≡ Err response
    → IsRefused pod request asked seq stamp response
