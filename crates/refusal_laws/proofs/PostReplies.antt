-- A POST that is granted has a reply.
use Rattle.std.proofs.Common.{◌≡◌, ℕ, Bool, true, false, cond, not, List, Option, Some, None, Result, Ok, Err, IfSome, refl, sym, ap, subst}
use Rattle.std.specs.Prelude.{IsTrue, bytes_eq, codes}
use Rattle.pod_base.specs.declared.method.Method.{Method}
use Rattle.pod_base.specs.declared.method.Method.TheVariants as methods
use Rattle.pod_base.specs.declared.request.Request.{Request}
use Rattle.pod_base.specs.declared.response.Response.{Response}
use Rattle.pod_command.specs.declared.basis.Basis.{Basis}
use Rattle.pod_command.specs.declared.row.Content.{Content as RowContent}
use Rattle.pod_path.proofs.NormalPaths.{is_path, norm_parts}
use Rattle.pod_path.specs.Hierarchy.{is_container, uri_of}
use Rattle.pod_path.specs.Norm.{IsPath, norm}
use Rattle.pod_path.specs.declared.fault.PathFault.{PathFault}
use Rattle.pod_reply.proofs.BodyLemmas.{has_content}
use Rattle.pod_reply.proofs.DispatchLemmas.{admitted_allowed}
use Rattle.pod_reply.specs.EntrySize.{size_refusal}
use Rattle.pod_reply.specs.Obstacles.{refuse_if}
use Rattle.pod_reply.specs.PostReplies.{IsMade, IsMemberReply, IsNamedReply, IsPostReply, IsPosted, judged_member, member_refusal}
use Rattle.pod_reply.specs.PutReplies.{IsUnlessRefused}
use Rattle.pod_reply.specs.Replies.{Reply, unchanged}
use Rattle.pod_reply.specs.Reply.{HasContent}
use Rattle.pod_reply.specs.declared.origin.Origin.{Origin}
use Rattle.pod_responses.specs.Allow.{is_allowed}
use Rattle.pod_responses.specs.Responses.{refusal}
use Rattle.pod_rows.specs.Pod.{Pod, is_row}
use Rattle.pod_rows.specs.WellFormed.{WellFormed}
use Rattle.request_body.specs.Bodies.{Means, Outcome}
use Rattle.request_body.specs.declared.body.RequestBody.{RequestBody}
use Rattle.request_body.specs.declared.body.RequestBody.TheVariants.{Content}
use Rattle.request_fields.specs.Links.{links_to_container}
use Rattle.request_fields.specs.PartFields.{slug}
use Rattle.request_target.specs.Admission.{admitted, admitted_to, method_refusal, token_refusal, unless}
use Rattle.request_target.specs.Targets.{origin_form, path_refusal, resource_of, server_for, target_of}
use Rattle.request_target.specs.declared.target.Target.{Target}
use Rattle.request_target.specs.declared.target.Target.TheVariants.{Resource, Server}
use Rattle.slug_naming.specs.Stems.{stem_of}
use Rattle.token_table.specs.Credentials.{AskedAgent}
use Rattle.refusal_laws.specs.SomeReplies.{AreBytes}
use Rattle.refusal_laws.proofs.MemberNames.{SomeName, some_name}
use Rattle.refusal_laws.proofs.Stems.{stem_plain}

-- ---- an admitted path is a path

no_target : (response : Response) (target : Target) → ◌≡◌ {A = Result Target Response} (Err response) (Ok target) → ⊥
no_target response target h = cc

one_target : (a b : Target) → ◌≡◌ {A = Result Target Response} (Ok a) (Ok b) → a ≡ b
one_target a b h = cc

no_server : (path : List ℕ) → Server ≡ Resource path → ⊥
no_server path h = cc

one_resource : (path other : List ℕ) → Resource path ≡ Resource other → path ≡ other
one_resource path other h = cc

unless_target : (target admits : Target) (token later : Option Response) → unless target token later ≡ Ok admits → target ≡ admits
unless_target target admits (Some response) later h = absurd (no_target response admits h)
unless_target target admits None (Some response) h = absurd (no_target response admits h)
unless_target target admits None None h = one_target target admits h

to_target : (asked : AskedAgent) (method : Method) (found : Result Target Response) (admits : Target) → admitted_to asked method found ≡ Ok admits → found ≡ Ok admits
to_target asked method (Ok target) admits h = ap Ok (unless_target target admits (token_refusal asked) (method_refusal target method) h)
to_target asked method (Err response) admits h = absurd (no_target response admits h)

server_alone : (method : Method) (path : List ℕ) → server_for method ≡ Ok (Resource path) → ⊥
server_alone methods.Options path h = no_server path (one_target Server (Resource path) h)
server_alone methods.Get path h = no_target _ (Resource path) h
server_alone methods.Head path h = no_target _ (Resource path) h
server_alone methods.Post path h = no_target _ (Resource path) h
server_alone methods.Put path h = no_target _ (Resource path) h
server_alone methods.Patch path h = no_target _ (Resource path) h
server_alone methods.Delete path h = no_target _ (Resource path) h
server_alone methods.Other path h = no_target _ (Resource path) h

of_resource : (read : Result (List ℕ) PathFault) (path : List ℕ) → resource_of read ≡ Ok (Resource path) → read ≡ Ok path
of_resource (Ok text) path h = ap Ok (one_resource text path (one_target (Resource text) (Resource path) h))
of_resource (Err fault) path h = absurd (no_target (path_refusal fault) (Resource path) h)

target_path : (base : List ℕ) (method : Method) (target path : List ℕ) → target_of base method target ≡ Ok (Resource path) → IsPath path
target_path base method target path h = by_test (bytes_eq target (codes "*")) h
  where
    by_test : (b : Bool) → cond b (server_for method) (resource_of (norm (origin_form base target))) ≡ Ok (Resource path) → IsPath path
    by_test true e = absurd (server_alone method path e)
    by_test false e = is_path path (norm_parts (origin_form base target) path (of_resource (norm (origin_form base target)) path e))

admitted_path : (base : List ℕ) (request : Request) (asked : AskedAgent) (path : List ℕ) → admitted base request asked ≡ Ok (Resource path) → IsPath path
admitted_path base request asked path h =
    target_path base request.method request.target path (to_target asked request.method (target_of base request.method request.target) (Resource path) h)

-- ---- the reply

module _ (pod : Pod) (request : Request) (path : List ℕ) (origin : Origin) (bases : List Basis) (is_post : request.method ≡ methods.Post)
    (means : (base : List ℕ) → (outcome : Outcome) × Means base path request outcome) (content : RowContent) where
  by_body : (member : List ℕ) (body : RequestBody) → Means (uri_of pod.base member) path request (Ok body) → (reply : Reply) × IsMemberReply pod request path origin bases member (Ok body) reply
  by_body member (Content read) h = (judged_member pod request path origin bases member read, refl)
  by_body member body h = absurd (has_content (uri_of pod.base member) path request body (subst HasContent (sym is_post) tt) h)

  by_outcome : (member : List ℕ) (outcome : Outcome) → Means (uri_of pod.base member) path request outcome → (reply : Reply) × IsMade pod request path origin bases member reply
  by_outcome member (Err fault) h = (unchanged size_refusal, record { read = Err fault; means = h; follows = refl })
  by_outcome member (Ok body) h =
      let made = by_body member body h in
      (made.0, record { read = Ok body; means = h; follows = made.1 })

  made_unless : (refused : Option Response) (member : List ℕ) → (reply : Reply) × IsUnlessRefused refused (IsMade pod request path origin bases member) reply
  made_unless (Some response) member = (unchanged response, refl)
  made_unless None member =
      let read = means (uri_of pod.base member) in
      by_outcome member read.0 read.1

  by_name : (named : Result (List ℕ) Response) → (reply : Reply) × IsNamedReply pod request path origin bases content named reply
  by_name (Err response) = (unchanged response, refl)
  by_name (Ok member) = made_unless (member_refusal pod request origin.seq path member content) member

  named_reply : SomeName pod path (stem_of (slug request.fields)) (links_to_container request.fields) → (reply : Reply) × IsPosted pod request path origin bases content reply
  named_reply name =
      let follows = by_name name.named in
      (follows.0, record { named = name.named; is = name.is; follows = follows.1 })

  by_row : (b : Bool) → is_row pod.rows path ≡ b → (reply : Reply) × IsPosted pod request path origin bases content reply → (reply : Reply) × IsPostReply pod request path origin bases content reply
  by_row true e made = (
    made.0,
    subst (λ (b : Bool). IsUnlessRefused (refuse_if (not b) (refusal 404 (codes "missing"))) (IsPosted pod request path origin bases content) made.0) (sym e) made.1,
  )
  by_row false e made = (
    unchanged (refusal 404 (codes "missing")),
    subst (λ (b : Bool). IsUnlessRefused (refuse_if (not b) (refusal 404 (codes "missing"))) (IsPosted pod request path origin bases content) (unchanged (refusal 404 (codes "missing")))) (sym e) refl,
  )

  pub post_reply : WellFormed pod → IfSome (slug request.fields) AreBytes → (asked : AskedAgent) → admitted pod.base request asked ≡ Ok (Resource path) → (reply : Reply) × IsPostReply pod request path origin bases content reply
  post_reply well_formed bytes asked e =
      let closed : IsTrue (is_container path) = subst (λ (m : Method). is_allowed path m ≡ true) is_post (admitted_allowed pod.base request asked path e) in
      by_row (is_row pod.rows path) refl
      (named_reply (some_name pod path (stem_of (slug request.fields)) (links_to_container request.fields) (admitted_path pod.base request asked path e) closed (stem_plain (slug request.fields) bytes) well_formed))
