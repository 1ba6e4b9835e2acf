-- What a pod replies to a request: the first refusal that holds, in the order target, token,
-- method, body, access, place in the tree, representation, preconditions, content, size; else the
-- success of its method.
use Rattle.std.specs.Prelude.{◌≡◌, ℕ, List, Result, Ok, Err}
use Rattle.pod_base.specs.declared.agent.Agent.{Agent}
use Rattle.pod_base.specs.declared.agent.Agent.TheVariants.{Public, Known}
use Rattle.pod_base.specs.declared.method.Method.{Method}
use Rattle.pod_base.specs.declared.method.Method.TheVariants.{Get, Head, Options, Post, Put}
use Rattle.pod_base.specs.declared.method.Method.TheVariants.{Patch, Delete, Other}
use Rattle.pod_base.specs.declared.moment.Stamp.{Stamp}
use Rattle.pod_base.specs.declared.request.Request.{Request}
use Rattle.pod_base.specs.declared.response.Response.{Response}
use Rattle.pod_command.specs.declared.basis.Basis.{Basis}
use Rattle.pod_path.specs.Hierarchy.{uri_of}
use Rattle.pod_responses.specs.Responses.{options, options_of_server}
use Rattle.pod_rows.specs.Pod.{Pod}
use Rattle.request_body.specs.Bodies.{Outcome, Means}
use Rattle.request_body.specs.Refusals.{refusal_of}
use Rattle.request_body.specs.declared.body.RequestBody.{RequestBody}
use Rattle.request_body.specs.declared.body.RequestBody.TheVariants.{Content}
use Rattle.request_target.specs.Admission.{admitted}
use Rattle.request_target.specs.declared.target.Target.{Target}
use Rattle.request_target.specs.declared.target.Target.TheVariants.{Server, Resource}
use Rattle.token_table.specs.Credentials.{AskedAgent, public, known, refused}
use Rattle.pod_reply.specs.AccessRank.{access_of}
use Rattle.pod_reply.specs.DeleteReplies.{delete_reply}
use Rattle.pod_reply.specs.PatchReplies.{IsPatchReply}
use Rattle.pod_reply.specs.PostReplies.{candidate_base, IsPostReply}
use Rattle.pod_reply.specs.PutReplies.{put_reply}
use Rattle.pod_reply.specs.ReadReplies.{read_reply}
use Rattle.pod_reply.specs.Replies.{Reply, unchanged, sent_to}
use Rattle.pod_reply.specs.Shapes.{shape_of}
use Rattle.pod_reply.specs.declared.origin.Origin.{Origin}

-- A PUT has content.
abbrev pub IsPutReply : Pod → Request → List ℕ → Origin → List Basis → RequestBody → Reply → Type 0
IsPutReply pod request path origin bases (Content content) reply =
    reply ≡ put_reply pod request path origin bases content
IsPutReply pod request path origin bases other reply = ⊥

abbrev pub IsMemberPost : Pod → Request → List ℕ → Origin → List Basis → RequestBody → Reply
    → Type 0
IsMemberPost pod request path origin bases (Content content) reply =
    IsPostReply pod request path origin bases content reply
IsMemberPost pod request path origin bases other reply = ⊥

-- The success, or a refusal that depends on the pod, by the method.
abbrev pub IsMethodReply : Method → Pod → Request → List ℕ → Origin → List Basis → RequestBody
    → Reply → Type 0
IsMethodReply Get pod request path origin bases body reply =
    reply ≡ unchanged (read_reply pod request path origin.agent)
IsMethodReply Head pod request path origin bases body reply =
    reply ≡ unchanged (read_reply pod request path origin.agent)
IsMethodReply Options pod request path origin bases body reply = reply ≡ unchanged (options path)
IsMethodReply Post pod request path origin bases body reply =
    IsMemberPost pod request path origin bases body reply
IsMethodReply Put pod request path origin bases body reply =
    IsPutReply pod request path origin bases body reply
IsMethodReply Patch pod request path origin bases body reply =
    IsPatchReply pod request path origin bases body reply
IsMethodReply Delete pod request path origin bases body reply =
    reply ≡ delete_reply pod request path origin bases
IsMethodReply Other pod request path origin bases body reply = ⊥

-- the methods that send content
abbrev pub HasContent : Method → Type 0
HasContent Put = Unit {0}
HasContent Post = Unit {0}
HasContent _ = ⊥

-- access is decided before anything else of the pod is revealed
abbrev pub IsGrantedReply : Pod → Request → List ℕ → Origin → RequestBody
    → Result (List Basis) Response → Reply → Type 0
IsGrantedReply pod request path origin body (Err response) reply = reply ≡ unchanged response
IsGrantedReply pod request path origin body (Ok bases) reply =
    IsMethodReply request.method pod request path origin bases body reply

abbrev pub IsReadReply : Pod → Request → List ℕ → Origin → Outcome → Reply → Type 0
IsReadReply pod request path origin (Err fault) reply =
    reply ≡ unchanged (refusal_of request.method path fault)
IsReadReply pod request path origin (Ok body) reply = IsGrantedReply pod request path origin body
    (access_of pod origin.agent (shape_of pod request path body)) reply

-- what relative references of the body are resolved against
abbrev pub body_base : Method → Pod → Request → List ℕ → List ℕ
body_base Post pod request path = candidate_base pod request path
body_base _ pod request path = uri_of pod.base path

-- the reply at a path: the body means one thing at most
pub record IsResourceReply (pod : Pod) (request : Request) (path : List ℕ) (origin : Origin)
    (reply : Reply) : Type 0 where
  pub read : Outcome
  pub means : Means (body_base request.method pod request path) path request read
  pub follows : IsReadReply pod request path origin read reply

-- A request that isn't refused is made by anybody, or by a known agent.
abbrev pub agent_of : AskedAgent → Agent
agent_of public = Public
agent_of (known agent) = Known agent
agent_of refused = Public

abbrev pub origin_of : AskedAgent → ℕ → Stamp → Origin
origin_of asked seq stamp = record { seq = seq; stamp = stamp; agent = agent_of asked }

abbrev pub IsAdmittedReply : Pod → Request → Origin → Result Target Response → Reply → Type 0
IsAdmittedReply pod request origin (Err response) reply = reply ≡ unchanged response
IsAdmittedReply pod request origin (Ok Server) reply = reply ≡ unchanged options_of_server
IsAdmittedReply pod request origin (Ok (Resource path)) reply =
    IsResourceReply pod request path origin reply

-- a reply as it is sent: to a HEAD without the bytes of its body
abbrev pub sent : Method → Reply → Reply
sent method reply = record reply { response = sent_to method reply.response }

-- The reply of a pod to a request, where the next change has that number.
pub record IsReply (pod : Pod) (request : Request) (asked : AskedAgent) (seq : ℕ) (stamp : Stamp)
    (reply : Reply) : Type 0 where
  pub told : Reply
  pub is : IsAdmittedReply pod request (origin_of asked seq stamp)
      (admitted pod.base request asked) told
  pub is_sent : reply ≡ sent request.method told
