-- What is refused before anything of the pod is looked at: a target that is no path, a token that
-- isn't accepted, a method that isn't implemented or that the path doesn't take. The first refusal
-- is told.
use Rattle.std.specs.Prelude.{ℕ, if◌then◌else◌, List, Option, Some, None, Result, Ok, Err, codes}
use Rattle.pod_base.specs.declared.method.Method.{Method}
use Rattle.pod_base.specs.declared.method.Method.TheVariants.{Other}
use Rattle.pod_base.specs.declared.request.Request.{Request}
use Rattle.pod_base.specs.declared.response.Response.{Response}
use Rattle.pod_responses.specs.Allow.{is_allowed}
use Rattle.pod_responses.specs.Responses.{refusal, unauthorized, not_allowed}
use Rattle.token_table.specs.Credentials.{AskedAgent, refused}
use Rattle.request_target.specs.Targets.{target_of}
use Rattle.request_target.specs.declared.target.Target.{Target}
use Rattle.request_target.specs.declared.target.Target.TheVariants.{Server, Resource}

-- a token that isn't accepted
abbrev pub token_refusal : AskedAgent → Option Response
token_refusal refused = Some (unauthorized (codes "token"))
token_refusal _ = None

-- which methods the target takes
abbrev pub untaken : Target → Method → Option Response
untaken Server method = None
untaken (Resource path) method = if is_allowed path method then None else Some (not_allowed path)

abbrev pub method_refusal : Target → Method → Option Response
method_refusal target Other = Some (refusal 501 (codes "method"))
method_refusal target method = untaken target method

-- the target, unless one of these refuses the request
abbrev pub unless : Target → Option Response → Option Response → Result Target Response
unless target (Some response) later = Err response
unless target None (Some response) = Err response
unless target None None = Ok target

abbrev pub admitted_to : AskedAgent → Method → Result Target Response → Result Target Response
admitted_to asked method (Ok target) =
    unless target (token_refusal asked) (method_refusal target method)
admitted_to asked method (Err response) = Err response

-- What a request is about, or the first of these refusals.
abbrev pub admitted : List ℕ → Request → AskedAgent → Result Target Response
admitted base request asked =
    admitted_to asked request.method (target_of base request.method request.target)
