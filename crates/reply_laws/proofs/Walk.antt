-- What a reply is, by the walk through its definition.
use Rattle.std.proofs.Common.{◌≡◌, ℕ, true, false, List, [], Option, Some, None, Result, Ok, Err, refl, sym, ap, subst, ◌∙◌}
use Rattle.pod_access.specs.Bases.{bases_of}
use Rattle.pod_base.specs.declared.method.Method.{Method}
use Rattle.pod_base.specs.declared.method.Method.TheVariants.{Get, Head, Options, Post, Put, Patch, Delete, Other}
use Rattle.pod_base.specs.declared.moment.Stamp.{Stamp}
use Rattle.pod_base.specs.declared.request.Request.{Request}
use Rattle.pod_base.specs.declared.response.Response.{Response}
use Rattle.pod_command.specs.declared.basis.Basis.{Basis}
use Rattle.pod_path.specs.Norm.{norm}
use Rattle.pod_responses.specs.Allow.{is_allowed}
use Rattle.pod_responses.specs.Responses.{options, options_of_server}
use Rattle.pod_rows.specs.Pod.{Pod}
use Rattle.pod_reply.specs.AccessRank.{access_refusal, unless_denied}
use Rattle.pod_reply.specs.Replies.{Reply, unchanged}
use Rattle.pod_reply.specs.Reply.{IsAdmittedReply, IsGrantedReply, IsMethodReply, IsReadReply, agent_of, body_base, origin_of}
use Rattle.pod_reply.specs.Shapes.{shape_of}
use Rattle.request_body.specs.Bodies.{Means, Outcome}
use Rattle.request_body.specs.Refusals.{refusal_of}
use Rattle.request_body.specs.declared.body.RequestBody.{RequestBody}
use Rattle.request_body.specs.declared.body.RequestBody.TheVariants.{Nothing, Content, Patch as PatchBody, Update}
use Rattle.request_target.specs.Admission.{admitted}
use Rattle.request_target.specs.declared.target.Target.{Target}
use Rattle.request_target.specs.declared.target.Target.TheVariants.{Server, Resource}
use Rattle.token_table.specs.Credentials.{AskedAgent}
use Rattle.pod_access.specs.Needs.{needs_of}
use Rattle.reply_laws.specs.Granted.{is_change}
use Rattle.reply_laws.proofs.Fields.{options_are_lines}
use Rattle.reply_laws.proofs.Making.{IsAsked, delete_kind, patch_kind, post_kind, put_kind}
use Rattle.reply_laws.proofs.PlainRefusals.{Admits, access_plain, admitted_is, body_plain}
use Rattle.reply_laws.proofs.ReadKinds.{read_kind}
use Rattle.reply_laws.proofs.ReplyKinds.{IsPlain, IsShown, Kind}
use Rattle.reply_laws.proofs.ReplyKinds.Kind.{refused, shown}

module _ (pod : Pod) (request : Request) (asked : AskedAgent) (seq : ℕ) (stamp : Stamp) (told : Reply) where
  unchanged_kind : (response : Response) → IsPlain response → told ≡ unchanged response → Kind pod request asked seq stamp told
  unchanged_kind response plain h = subst (Kind pod request asked seq stamp) (sym h) (refused response plain)

  shown_kind : (response : Response) → is_change request.method ≡ false → IsShown pod response → told ≡ unchanged response → Kind pod request asked seq stamp told
  shown_kind response read shows h = subst (Kind pod request asked seq stamp) (sym h) (shown response read shows)

  member_body : (path : List ℕ) (bases : List Basis) (body : RequestBody) → IsAsked pod request asked path body bases → request.method ≡ Post
      → IsMethodReply Post pod request path (origin_of asked seq stamp) bases body told → Kind pod request asked seq stamp told
  member_body path bases Nothing a is h = absurd h
  member_body path bases (Content content) a is h = post_kind pod request asked seq stamp path bases content told a is h
  member_body path bases (PatchBody patch) a is h = absurd h
  member_body path bases (Update named) a is h = absurd h

  put_body : (path : List ℕ) (bases : List Basis) (body : RequestBody) → IsAsked pod request asked path body bases → request.method ≡ Put
      → IsMethodReply Put pod request path (origin_of asked seq stamp) bases body told → Kind pod request asked seq stamp told
  put_body path bases Nothing a is h = absurd h
  put_body path bases (Content content) a is h = subst (Kind pod request asked seq stamp) (sym h) (put_kind pod request asked seq stamp path bases content a is)
  put_body path bases (PatchBody patch) a is h = absurd h
  put_body path bases (Update named) a is h = absurd h

  read_told : (path : List ℕ) (m : Method) → norm path ≡ Ok path → request.method ≡ m → is_change m ≡ false
      → IsMethodReply Get pod request path (origin_of asked seq stamp) [] Nothing told → Kind pod request asked seq stamp told
  read_told path m normal is read h =
      subst (Kind pod request asked seq stamp) (sym h) (read_kind pod request asked seq stamp path (agent_of asked) normal (ap is_change is ∙ read))

  by_method : (path : List ℕ) (bases : List Basis) (body : RequestBody) (m : Method) → IsAsked pod request asked path body bases → request.method ≡ m
      → IsMethodReply m pod request path (origin_of asked seq stamp) bases body told → Kind pod request asked seq stamp told
  by_method path bases body Get a is h = read_told path Get a.normal is refl h
  by_method path bases body Head a is h = read_told path Head a.normal is refl h
  by_method path bases body Options a is h = shown_kind (options path) (ap is_change is) (record { status = refl; fields = λ w. options_are_lines path }) h
  by_method path bases body Post a is h = member_body path bases body a is h
  by_method path bases body Put a is h = put_body path bases body a is h
  by_method path bases body Patch a is h = patch_kind pod request asked seq stamp path bases body told a is h
  by_method path bases body Delete a is h = subst (Kind pod request asked seq stamp) (sym h) (delete_kind pod request asked seq stamp path bases body a is)
  by_method path bases body Other a is h = absurd h

  by_access : (path : List ℕ) (body : RequestBody) (o : Option (List Basis)) → admitted pod.base request asked ≡ Ok (Resource path)
      → (norm path ≡ Ok path) × (is_allowed path request.method ≡ true)
      → Means (body_base request.method pod request path) path request (Ok body)
      → bases_of pod (agent_of asked) (needs_of (shape_of pod request path body)) ≡ o
      → IsGrantedReply pod request path (origin_of asked seq stamp) body (unless_denied (agent_of asked) o) told → Kind pod request asked seq stamp told
  by_access path body None target facts means e h = unchanged_kind (access_refusal (agent_of asked)) (access_plain (agent_of asked)) h
  by_access path body (Some bases) target facts means e h =
      by_method path bases body request.method (record { target = target; normal = facts.0; allowed = facts.1; means = means; bases_are = e }) refl h

  by_body : (path : List ℕ) (read : Outcome) → admitted pod.base request asked ≡ Ok (Resource path)
      → (norm path ≡ Ok path) × (is_allowed path request.method ≡ true)
      → Means (body_base request.method pod request path) path request read
      → IsReadReply pod request path (origin_of asked seq stamp) read told → Kind pod request asked seq stamp told
  by_body path (Err fault) target facts means h = unchanged_kind (refusal_of request.method path fault) (body_plain request.method path fault) h
  by_body path (Ok body) target facts means h =
      by_access path body (bases_of pod (agent_of asked) (needs_of (shape_of pod request path body))) target facts means refl h

  by_target : (r : Result Target Response) → admitted pod.base request asked ≡ r → Admits request.method r
      → IsAdmittedReply pod request (origin_of asked seq stamp) r told → Kind pod request asked seq stamp told
  by_target (Err response) e facts h = unchanged_kind response facts h
  by_target (Ok Server) e facts h = shown_kind options_of_server (ap is_change facts) (record { status = refl; fields = λ w. refl }) h
  by_target (Ok (Resource path)) e facts h = by_body path h.read e facts h.means h.follows

  pub told_kind : IsAdmittedReply pod request (origin_of asked seq stamp) (admitted pod.base request asked) told → Kind pod request asked seq stamp told
  told_kind h = by_target (admitted pod.base request asked) refl (admitted_is pod.base request asked) h
