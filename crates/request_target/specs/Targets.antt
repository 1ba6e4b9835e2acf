-- The target of a request: the server, or a path of the pod (RFC 9112, section 3.2).
use Rattle.std.specs.Prelude.{ℕ, nat_eq, bytes_eq, if◌then◌else◌, List, length, drop, Result, Ok}
use Rattle.std.specs.Prelude.{Err, codes}
use Rattle.std.specs.List.{starts_with}
use Rattle.pod_base.specs.declared.method.Method.{Method}
use Rattle.pod_base.specs.declared.method.Method.TheVariants.{Options}
use Rattle.pod_base.specs.declared.response.Response.{Response}
use Rattle.pod_path.specs.Hierarchy.{without_last_slash}
use Rattle.pod_path.specs.Norm.{norm}
use Rattle.pod_path.specs.declared.fault.PathFault.{PathFault}
use Rattle.pod_path.specs.declared.fault.PathFault.TheVariants.{TooLong, TooDeep}
use Rattle.pod_responses.specs.Responses.{refusal}
use Rattle.request_target.specs.declared.target.Target.{Target}
use Rattle.request_target.specs.declared.target.Target.TheVariants.{Server, Resource}

-- A target in absolute form without the base but its last slash; any other target as it is.
abbrev pub origin_form : List ℕ → List ℕ → List ℕ
origin_form base target = if starts_with nat_eq target base
    then drop (length (without_last_slash base)) target else target

-- why a target is no path
abbrev pub path_refusal : PathFault → Response
path_refusal TooLong = refusal 414 (codes "path-size")
path_refusal TooDeep = refusal 414 (codes "path-size")
path_refusal _ = refusal 400 (codes "path")

abbrev pub resource_of : Result (List ℕ) PathFault → Result Target Response
resource_of (Ok path) = Ok (Resource path)
resource_of (Err fault) = Err (path_refusal fault)

-- OPTIONS alone has the server as its target.
abbrev pub server_for : Method → Result Target Response
server_for Options = Ok Server
server_for _ = Err (refusal 400 (codes "path"))

-- What a target of a request is about, or its refusal.
abbrev pub target_of : List ℕ → Method → List ℕ → Result Target Response
target_of base method target = if bytes_eq target (codes "*") then server_for method
    else resource_of (norm (origin_form base target))
