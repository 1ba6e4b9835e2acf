-- What an entry records: the request that made it, and why that was granted.
use Rattle.std.specs.Prelude.{◌≡◌, Bool, true, false, length, Some, Ok}
use Rattle.pod_base.specs.declared.method.Method.{Method}
use Rattle.pod_base.specs.declared.method.Method.TheVariants.{Get, Head, Options, Post, Put}
use Rattle.pod_base.specs.declared.method.Method.TheVariants.{Patch, Delete, Other}
use Rattle.pod_base.specs.declared.moment.Stamp.{Stamp}
use Rattle.pod_base.specs.declared.request.Request.{Request}
use Rattle.pod_access.specs.Bases.{bases_of}
use Rattle.pod_command.specs.declared.entry.Entry.{Entry}
use Rattle.pod_rows.specs.Pod.{Pod}
use Rattle.pod_reply.specs.Reply.{agent_of, body_base}
use Rattle.pod_reply.specs.Shapes.{shape_of}
use Rattle.request_body.specs.Bodies.{Means}
use Rattle.request_body.specs.declared.body.RequestBody.{RequestBody}
use Rattle.request_target.specs.Admission.{admitted}
use Rattle.request_target.specs.declared.target.Target.TheVariants.{Resource}
use Rattle.token_table.specs.Credentials.{AskedAgent}
use Rattle.pod_access.specs.Needs.{needs_of}

-- the methods that change a pod
abbrev pub is_change : Method → Bool
is_change Get = false
is_change Head = false
is_change Options = false
is_change Post = true
is_change Put = true
is_change Patch = true
is_change Delete = true
is_change Other = false

-- The entry has the data of the request, of its agent and of its stamp. Its bases are those of the
-- needs of the request's shape, by what its body means: one for each, in their order.
pub record IsGranted (pod : Pod) (request : Request) (asked : AskedAgent) (stamp : Stamp)
    (entry : Entry) : Type 0 where
  pub conn : entry.conn ≡ stamp.conn
  pub number : entry.number ≡ stamp.number
  pub moment : entry.moment ≡ stamp.moment
  pub agent : entry.agent ≡ agent_of asked
  pub method : entry.method ≡ request.method
  pub target : admitted pod.base request asked ≡ Ok (Resource entry.path)
  pub body : RequestBody
  pub means : Means (body_base request.method pod request entry.path) entry.path request (Ok body)
  pub bases : bases_of pod entry.agent (needs_of (shape_of pod request entry.path body))
      ≡ Some entry.bases.items
  pub each : length entry.bases.items
      ≡ length (needs_of (shape_of pod request entry.path body))
