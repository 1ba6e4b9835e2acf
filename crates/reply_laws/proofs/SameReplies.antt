-- Pods that are alike for an agent reply alike to its requests.
use Rattle.std.proofs.Common.{◌≡◌, ◌⊎◌, ℕ, Bool, true, false, cond, not, ◌||◌, ◌&&◌, List, [], ◌∷◌, ◌++◌, Option, Some, None, Result, Ok, Err, refl, sym, ap, ◌∙◌, subst, inl, inr, ⊎_elim}
use Rattle.std.specs.Prelude.{bytes_eq, codes, is_some}
use Rattle.std.specs.List.{Contains}
use Rattle.std.proofs.lemmas.List.Elements.{Contains-append_left, Contains-append_right}
use Rattle.acl_rules.proofs.NodeRules.{image_contains}
use Rattle.pod_access.specs.Bases.{bases_of, basis_of}
use Rattle.rdf_graph.proofs.Members.{contains_here}
use Rattle.request_fields.specs.Links.{links_to_container}
use Rattle.request_fields.specs.PartFields.{slug}
use Rattle.slug_naming.specs.Names.{candidate_path}
use Rattle.slug_naming.specs.Stems.{stem_of}
use Rattle.pod_base.specs.declared.agent.Agent.{Agent}
use Rattle.pod_base.specs.declared.agent.Mode.{Mode}
use Rattle.pod_base.specs.declared.agent.Mode.TheVariants.{Read, Append, Write, Control}
use Rattle.pod_base.specs.declared.method.Method.{Method}
use Rattle.pod_base.specs.declared.method.Method.TheVariants.{Get, Head, Options, Post, Put, Patch, Delete, Other}
use Rattle.pod_base.specs.declared.moment.Stamp.{Stamp}
use Rattle.pod_base.specs.declared.request.Request.{Request}
use Rattle.pod_base.specs.declared.response.Response.{Response}
use Rattle.pod_command.specs.declared.basis.Basis.{Basis}
use Rattle.pod_path.proofs.NormalPaths.{is_path, norm_parts}
use Rattle.pod_path.specs.Hierarchy.{is_acl, subject_of, uri_of}
use Rattle.pod_path.specs.Norm.{IsPath, norm}
use Rattle.pod_path.specs.declared.fault.PathFault.{PathFault}
use Rattle.pod_reply.specs.AccessRank.{access_of, unless_denied}
use Rattle.pod_reply.specs.ReadReplies.{read_reply}
use Rattle.pod_reply.specs.Replies.{Reply, unchanged}
use Rattle.pod_reply.specs.Reply.{IsAdmittedReply, IsGrantedReply, IsMethodReply, IsReadReply, IsReply, IsResourceReply, agent_of, body_base, origin_of}
use Rattle.pod_reply.specs.Shapes.{shape_of}
use Rattle.pod_reply.specs.declared.origin.Origin.{Origin}
use Rattle.pod_rows.specs.Access.{about}
use Rattle.pod_rows.specs.Pod.{Pod, row_at}
use Rattle.pod_rows.specs.WellFormed.{WellFormed}
use Rattle.request_body.specs.Bodies.{Means, Outcome}
use Rattle.request_body.specs.declared.body.RequestBody.{RequestBody}
use Rattle.request_body.specs.declared.body.RequestBody.TheVariants as bodies
use Rattle.request_target.specs.Admission.{admitted, admitted_to, method_refusal, token_refusal, unless}
use Rattle.request_target.specs.Targets.{origin_form, resource_of, server_for, target_of}
use Rattle.request_target.specs.declared.target.Target.{Target}
use Rattle.request_target.specs.declared.target.Target.TheVariants.{Server, Resource}
use Rattle.reply_laws.proofs.GrantedNeeds.{granted, judged_on, list_is_same, once, read_is_same}
use Rattle.reply_laws.proofs.SameAccess.{same_bases}
use Rattle.reply_laws.proofs.SameChanges.{same_delete, same_patch, same_post, same_put}
use Rattle.reply_laws.proofs.SameRanks.{same_read, same_shape}
use Rattle.reply_laws.specs.Alike.{Alike}
use Rattle.token_table.specs.Credentials.{AskedAgent}
use Rattle.pod_access.specs.Needs.{all_needs, description_needs, each_once, is_options, needs_of, new_row_needs, on, patch_modes, resource_needs, tag_modes}
use Rattle.pod_access.specs.declared.request_needs.Need.{Need}
use Rattle.pod_access.specs.declared.request_needs.Shape.{Shape}

-- ---- what needs Read

abbrev pub IsReading : Method → Shape → Type 0
IsReading Get s = Unit {0}
IsReading Head s = Unit {0}
IsReading Patch s = (s.tags ≡ true) ⊎ ((s.conditions ≡ true) ⊎ (s.deletions ≡ true))
IsReading Options s = ⊥
IsReading _ s = s.tags ≡ true

on_one : (path : List ℕ) (modes : List Mode) → Contains modes Read → Contains (on path modes) (record { path = path; mode = Read })
on_one path modes h = image_contains (λ (mode : Mode). record { path = path; mode = mode }) modes Read h

by_tags : (needs : List Need) (s : Shape) (path : List ℕ) → s.tags ≡ true → Contains (needs ++ on path (tag_modes s)) (record { path = path; mode = Read })
by_tags needs s path e =
    Contains-append_right needs (on path (tag_modes s)) (record { path = path; mode = Read })
    (on_one path (tag_modes s) (subst (λ (b : Bool). Contains (cond b (Read ∷ []) []) Read) (sym e) (contains_here Read [])))

by_patch : (s : Shape) → (s.conditions ≡ true) ⊎ (s.deletions ≡ true) → Contains (patch_modes s) Read
by_patch s h = ⊎_elim by_conditions by_deletions h
  where
    middle : List Mode
    middle = cond (s.insertions || (not s.insertions && not s.deletions)) (Append ∷ []) []

    last : List Mode
    last = cond s.deletions (Read ∷ Write ∷ []) []

    by_conditions : s.conditions ≡ true → Contains (patch_modes s) Read
    by_conditions e =
        Contains-append_left (cond s.conditions (Read ∷ []) []) (middle ++ last) Read
        (subst (λ (b : Bool). Contains (cond b (Read ∷ []) []) Read) (sym e) (contains_here Read []))

    by_deletions : s.deletions ≡ true → Contains (patch_modes s) Read
    by_deletions e =
        Contains-append_right (cond s.conditions (Read ∷ []) []) (middle ++ last) Read
        (Contains-append_right middle last Read
        (subst (λ (b : Bool). Contains (cond b (Read ∷ Write ∷ []) []) Read) (sym e) (contains_here Read (Write ∷ []))))

-- a resource that is no access list and no description
resource_reads : (m : Method) (s : Shape) → IsReading m s → Contains (resource_needs m s ++ on s.path (tag_modes s)) (record { path = s.path; mode = Read })
resource_reads Get s h = Contains-append_left (on s.path (Read ∷ [])) (on s.path (tag_modes s)) (record { path = s.path; mode = Read }) (on_one s.path (Read ∷ []) (contains_here Read []))
resource_reads Head s h = Contains-append_left (on s.path (Read ∷ [])) (on s.path (tag_modes s)) (record { path = s.path; mode = Read }) (on_one s.path (Read ∷ []) (contains_here Read []))
resource_reads Options s h = absurd h
resource_reads Post s h = by_tags (resource_needs Post s) s s.path h
resource_reads Put s h = by_tags (resource_needs Put s) s s.path h
resource_reads Delete s h = by_tags (resource_needs Delete s) s s.path h
resource_reads Other s h = by_tags (resource_needs Other s) s s.path h
resource_reads Patch s h =
    ⊎_elim
    (λ tags. by_tags (resource_needs Patch s) s s.path tags)
    (λ body. Contains-append_left (resource_needs Patch s) (on s.path (tag_modes s)) (record { path = s.path; mode = Read })
    (Contains-append_left (on s.path (patch_modes s)) (cond s.exists [] (new_row_needs s)) (record { path = s.path; mode = Read })
    (on_one s.path (patch_modes s) (by_patch s body)))) h

description_reads : (m : Method) (s : Shape) (subject : List ℕ) → IsReading m s
    → Contains (description_needs m s subject ++ on subject (tag_modes s)) (record { path = subject; mode = Read })
description_reads Get s subject h = Contains-append_left (on subject (Read ∷ [])) (on subject (tag_modes s)) (record { path = subject; mode = Read }) (on_one subject (Read ∷ []) (contains_here Read []))
description_reads Head s subject h = Contains-append_left (on subject (Read ∷ [])) (on subject (tag_modes s)) (record { path = subject; mode = Read }) (on_one subject (Read ∷ []) (contains_here Read []))
description_reads Options s subject h = absurd h
description_reads Post s subject h = by_tags (description_needs Post s subject) s subject h
description_reads Put s subject h = by_tags (description_needs Put s subject) s subject h
description_reads Delete s subject h = by_tags (description_needs Delete s subject) s subject h
description_reads Other s subject h = by_tags (description_needs Other s subject) s subject h
description_reads Patch s subject h =
    ⊎_elim
    (λ tags. by_tags (description_needs Patch s subject) s subject tags)
    (λ body. Contains-append_left (on subject (patch_modes s)) (on subject (tag_modes s)) (record { path = subject; mode = Read })
    (on_one subject (patch_modes s) (by_patch s body))) h

reads_among : (s : Shape) (o : Option (List ℕ)) → is_acl s.path ≡ false → IsReading s.method s → Contains (all_needs s o) (record { path = about s.path o; mode = Read })
reads_among s None e h = resource_reads s.method s h
reads_among s (Some subject) e h =
    subst (λ (b : Bool). Contains (cond b (on subject (Control ∷ [])) (description_needs s.method s subject ++ on subject (tag_modes s))) (record { path = subject; mode = Read }))
    (sym e) (description_reads s.method s subject h)

not_options : (m : Method) (s : Shape) → IsReading m s → is_options m ≡ false
not_options Get s h = refl
not_options Head s h = refl
not_options Options s h = absurd h
not_options Post s h = refl
not_options Put s h = refl
not_options Patch s h = refl
not_options Delete s h = refl
not_options Other s h = refl

reads_needed : (s : Shape) → is_acl s.path ≡ false → IsReading s.method s → Contains (needs_of s) (record { path = judged_on s.path; mode = Read })
reads_needed s e h =
    subst (λ (b : Bool). Contains (cond b [] (each_once (all_needs s (subject_of s.path)))) (record { path = judged_on s.path; mode = Read }))
    (sym (not_options s.method s h))
    (once (all_needs s (subject_of s.path)) (record { path = judged_on s.path; mode = Read }) (reads_among s (subject_of s.path) e h))

-- ---- the reply at a path

module _ (agent : Agent) (p q : Pod) (alike : Alike agent p q) (w : WellFormed p) (request : Request) (path : List ℕ) (normal : IsPath path) where
  reads_same : (s : Shape) (bases : List Basis) → s.path ≡ path → bases_of p agent (needs_of s) ≡ Some bases → IsReading s.method s → row_at p.rows path ≡ row_at q.rows path
  reads_same s bases is h reading = by_list (is_acl path) refl
    where
      by_list : (b : Bool) → is_acl path ≡ b → row_at p.rows path ≡ row_at q.rows path
      by_list true e = list_is_same agent p q alike path e
      by_list false e =
          read_is_same agent p q alike w path normal
          (subst (λ (x : List ℕ). is_some (basis_of p agent (record { path = judged_on x; mode = Read })) ≡ true) is
          (granted p agent (needs_of s) bases (record { path = judged_on s.path; mode = Read }) h (reads_needed s (ap is_acl is ∙ e) reading)))

  -- the reply to a granted request, by its method
  method_same : (m : Method) (origin : Origin) (bases : List Basis) (body : RequestBody) (reply : Reply) → request.method ≡ m → origin.agent ≡ agent
      → (IsReading m (shape_of p request path body) → row_at p.rows path ≡ row_at q.rows path)
      → IsMethodReply m p request path origin bases body reply → IsMethodReply m q request path origin bases body reply
  method_same Get origin bases body reply e a reads h =
      h ∙ ap (λ (x : Agent). unchanged (read_reply p request path x)) a ∙ ap unchanged (same_read agent p q alike request path (reads tt)) ∙ ap (λ (x : Agent). unchanged (read_reply q request path x)) (sym a)
  method_same Head origin bases body reply e a reads h =
      h ∙ ap (λ (x : Agent). unchanged (read_reply p request path x)) a ∙ ap unchanged (same_read agent p q alike request path (reads tt)) ∙ ap (λ (x : Agent). unchanged (read_reply q request path x)) (sym a)
  method_same Options origin bases body reply e a reads h = h
  method_same Post origin bases bodies.Nothing reply e a reads h = h
  method_same Post origin bases (bodies.Content content) reply e a reads h = same_post agent p q alike request path reads origin bases content reply h
  method_same Post origin bases (bodies.Patch patch) reply e a reads h = h
  method_same Post origin bases (bodies.Update named) reply e a reads h = h
  method_same Put origin bases bodies.Nothing reply e a reads h = h
  method_same Put origin bases (bodies.Content content) reply e a reads h = h ∙ same_put agent p q alike request path reads origin bases content
  method_same Put origin bases (bodies.Patch patch) reply e a reads h = h
  method_same Put origin bases (bodies.Update named) reply e a reads h = h
  method_same Patch origin bases body reply e a reads h =
      same_patch agent p q alike request path (λ t. reads (inl t)) origin bases body reply (λ c. reads (inr (inl c))) (λ d. reads (inr (inr d))) h
  method_same Delete origin bases body reply e a reads h = h ∙ same_delete agent p q alike request path reads origin bases
  method_same Other origin bases body reply e a reads h = h

  granted_same : (origin : Origin) (body : RequestBody) (reply : Reply) → origin.agent ≡ agent
      → IsGrantedReply p request path origin body (access_of p origin.agent (shape_of p request path body)) reply
      → IsGrantedReply q request path origin body (access_of q origin.agent (shape_of q request path body)) reply
  granted_same origin body reply a h =
      subst (λ (r : Result (List Basis) Response). IsGrantedReply q request path origin body r reply) access
      (by_bases (bases_of p agent (needs_of (shape_of p request path body))) refl
      (subst (λ (x : Agent). IsGrantedReply p request path origin body (access_of p x (shape_of p request path body)) reply) a h))
    where
      access : unless_denied agent (bases_of p agent (needs_of (shape_of p request path body))) ≡ access_of q origin.agent (shape_of q request path body)
      access =
          ap (unless_denied agent) (same_bases agent p q alike agent (needs_of (shape_of p request path body)))
          ∙ ap (λ (s : Shape). access_of q agent s) (same_shape agent p q alike request path body)
          ∙ ap (λ (x : Agent). access_of q x (shape_of q request path body)) (sym a)

      by_bases : (o : Option (List Basis)) → bases_of p agent (needs_of (shape_of p request path body)) ≡ o
          → IsGrantedReply p request path origin body (unless_denied agent o) reply → IsGrantedReply q request path origin body (unless_denied agent o) reply
      by_bases None e g = g
      by_bases (Some bases) e g =
          method_same request.method origin bases body reply refl a
          (λ reading. reads_same (shape_of p request path body) bases refl e reading) g

  read_same : (origin : Origin) (read : Outcome) (reply : Reply) → origin.agent ≡ agent → IsReadReply p request path origin read reply → IsReadReply q request path origin read reply
  read_same origin (Err fault) reply a h = h
  read_same origin (Ok body) reply a h = granted_same origin body reply a h

  same_base : (m : Method) → body_base m p request path ≡ body_base m q request path
  same_base Post = ap (λ (b : List ℕ). uri_of b (candidate_path path (stem_of (slug request.fields)) (links_to_container request.fields) 0)) alike.base
  same_base Get = ap (λ (b : List ℕ). uri_of b path) alike.base
  same_base Head = ap (λ (b : List ℕ). uri_of b path) alike.base
  same_base Options = ap (λ (b : List ℕ). uri_of b path) alike.base
  same_base Put = ap (λ (b : List ℕ). uri_of b path) alike.base
  same_base Patch = ap (λ (b : List ℕ). uri_of b path) alike.base
  same_base Delete = ap (λ (b : List ℕ). uri_of b path) alike.base
  same_base Other = ap (λ (b : List ℕ). uri_of b path) alike.base

  resource_same : (origin : Origin) (reply : Reply) → origin.agent ≡ agent → IsResourceReply p request path origin reply → IsResourceReply q request path origin reply
  resource_same origin reply a h = record {
    read = h.read;
    means = subst (λ (b : List ℕ). Means b path request h.read) (same_base request.method) h.means;
    follows = read_same origin h.read reply a h.follows;
  }

-- ---- what is admitted is a normal path

resource_normal : (r : Result (List ℕ) PathFault) (path : List ℕ) (text : List ℕ) → norm text ≡ r → resource_of r ≡ Ok (Resource path) → IsPath path
resource_normal (Ok found) path text e h =
    let same : found ≡ path = cc in subst (λ (x : List ℕ). IsPath x) same (is_path found (norm_parts text found e))
resource_normal (Err fault) path text e h = absurd cc

server_not : (m : Method) (path : List ℕ) → server_for m ≡ Ok (Resource path) → ⊥
server_not Get path h = absurd cc
server_not Head path h = absurd cc
server_not Options path h = absurd cc
server_not Post path h = absurd cc
server_not Put path h = absurd cc
server_not Patch path h = absurd cc
server_not Delete path h = absurd cc
server_not Other path h = absurd cc

target_normal : (base target : List ℕ) (m : Method) (path : List ℕ) → target_of base m target ≡ Ok (Resource path) → IsPath path
target_normal base target m path h = by_star (bytes_eq target (codes "*")) h
  where
    by_star : (b : Bool) → cond b (server_for m) (resource_of (norm (origin_form base target))) ≡ Ok (Resource path) → IsPath path
    by_star true g = absurd (server_not m path g)
    by_star false g = resource_normal (norm (origin_form base target)) path (origin_form base target) refl g

admitted_target : (asked : AskedAgent) (m : Method) (r : Result Target Response) (path : List ℕ) → admitted_to asked m r ≡ Ok (Resource path) → r ≡ Ok (Resource path)
admitted_target asked m (Err response) path h = absurd cc
admitted_target asked m (Ok target) path h = ap (λ (t : Target). Ok t) (by_refusals (token_refusal asked) (method_refusal target m) h)
  where
    by_refusals : (a b : Option Response) → unless target a b ≡ Ok (Resource path) → target ≡ Resource path
    by_refusals (Some response) b g = absurd cc
    by_refusals None (Some response) g = absurd cc
    by_refusals None None g = let same : target ≡ Resource path = cc in same

admitted_normal : (base : List ℕ) (request : Request) (asked : AskedAgent) (path : List ℕ) → admitted base request asked ≡ Ok (Resource path) → IsPath path
admitted_normal base request asked path h =
    target_normal base request.target request.method path (admitted_target asked request.method (target_of base request.method request.target) path h)

-- ---- the reply

pub replies_alike : (p q : Pod) (request : Request) (asked : AskedAgent) (seq : ℕ) (stamp : Stamp) (reply : Reply) → WellFormed p → Alike (agent_of asked) p q
    → IsReply p request asked seq stamp reply → IsReply q request asked seq stamp reply
replies_alike p q request asked seq stamp reply w alike h = record {
  told = h.told;
  is = subst (λ (b : List ℕ). IsAdmittedReply q request (origin_of asked seq stamp) (admitted b request asked) h.told) alike.base
      (by_target (admitted p.base request asked) refl h.is);
  is_sent = h.is_sent;
}
  where
    by_target : (r : Result Target Response) → admitted p.base request asked ≡ r
        → IsAdmittedReply p request (origin_of asked seq stamp) r h.told → IsAdmittedReply q request (origin_of asked seq stamp) r h.told
    by_target (Err response) e g = g
    by_target (Ok Server) e g = g
    by_target (Ok (Resource path)) e g =
        resource_same (agent_of asked) p q alike w request path (admitted_normal p.base request asked path e) (origin_of asked seq stamp) h.told refl g
