-- Pods that are alike for an agent reply alike to its changes.
use Rattle.std.proofs.Common.{◌≡◌, ℕ, Bool, true, false, cond, not, ◌&&◌, List, Option, Some, None, Result, Ok, Err, refl, sym, ap, ◌∙◌, subst}
use Rattle.std.specs.Prelude.{codes}
use Rattle.std.specs.Option.{option_map}
use Rattle.std.proofs.lemmas.Slice.Eq.{bytes_eq-Decides}
use Rattle.conditional_req.specs.Conditions.{conditions, needs_read}
use Rattle.patch_outcome.specs.declared.patch_refusals.PatchRefusal.{PatchRefusal}
use Rattle.pod_base.specs.declared.agent.Agent.{Agent}
use Rattle.pod_base.specs.declared.moment.Moment.{Moment}
use Rattle.pod_base.specs.declared.request.Request.{Request}
use Rattle.pod_base.specs.declared.response.Response.{Response}
use Rattle.pod_command.specs.declared.basis.Basis.{Basis}
use Rattle.pod_command.specs.declared.edit.Edit.{Edit}
use Rattle.pod_command.specs.declared.row.Content.{Content}
use Rattle.pod_command.specs.declared.row.Kind.{Kind}
use Rattle.pod_command.specs.declared.row.Row.{Row}
use Rattle.pod_edits.specs.Allowed.{triples_of}
use Rattle.pod_edits.specs.Edits.{put_edits, removal_edits}
use Rattle.pod_edits.specs.Refusals.{breaks_guard, is_bytes, is_root_list, states_containment}
use Rattle.pod_path.specs.Hierarchy.{is_acl, is_auxiliary, uri_of}
use Rattle.pod_reply.specs.DeleteReplies.{delete_edits, delete_refusal, delete_reply, removal_refusal}
use Rattle.pod_reply.specs.MemberNames.{IsFreeIn, IsNamed}
use Rattle.pod_reply.specs.Obstacles.{condition_refusal, conflict, first_of, refuse_if}
use Rattle.pod_reply.specs.PatchReplies.{IsApplied, IsBodyOutcome, IsPatchReply, changing_reply, is_bytes_row, new_row, outcome_reply, patch_refusal, patched_triples, triples_after}
use Rattle.pod_reply.specs.PostReplies.{IsMade, IsMemberReply, IsNamedReply, IsPostReply, IsPosted, containment_refusal, member_refusal, member_reply}
use Rattle.pod_reply.specs.PutReplies.{IsUnlessRefused, make_reply, made_response, making_edits, put_refusal, put_reply, put_row_reply, row_of, unless_refused}
use Rattle.pod_reply.specs.Replies.{Reply, change_reply, entry_of}
use Rattle.pod_reply.specs.Shapes.{has_conditions, has_deletions}
use Rattle.pod_reply.specs.declared.origin.Origin.{Origin}
use Rattle.pod_responses.specs.Responses.{changed, created, refusal}
use Rattle.pod_rows.specs.Guard.{guards}
use Rattle.pod_rows.specs.Pod.{Pod, is_row, row_at}
use Rattle.pod_rows.specs.View.{triples_in}
use Rattle.rdf_graph.specs.declared.change.Change.{Change}
use Rattle.rdf_graph.specs.declared.triple.Triple.{Triple}
use Rattle.request_body.specs.Bodies.{Means, Outcome}
use Rattle.request_body.specs.declared.body.RequestBody.{RequestBody}
use Rattle.request_body.specs.declared.body.RequestBody.TheVariants as bodies
use Rattle.request_fields.specs.Links.{links_to_container}
use Rattle.request_fields.specs.PartFields.{slug}
use Rattle.reply_laws.proofs.GrantedNeeds.{list_is_same}
use Rattle.reply_laws.proofs.InsertionsAlone.{insertions_alone}
use Rattle.reply_laws.proofs.SamePaths.{same_creation, same_deletion, same_has_children, same_is_row, same_is_row_at, same_kind}
use Rattle.reply_laws.proofs.SameRanks.{same_condition, same_content, same_place, same_room}
use Rattle.reply_laws.specs.Alike.{Alike, kind_of}
use Rattle.slug_naming.specs.Names.{IsFreeName}
use Rattle.slug_naming.specs.Stems.{stem_of}

-- ---- what is in the way, and what is made unless it is

made_unless : (a b : Option Response) (P Q : Reply → Type 0) (reply : Reply) → a ≡ b → (P reply → Q reply) → IsUnlessRefused a P reply → IsUnlessRefused b Q reply
made_unless a b P Q reply e f h = subst (λ (o : Option Response). IsUnlessRefused o Q reply) e (by_refusal a h)
  where
    by_refusal : (o : Option Response) → IsUnlessRefused o P reply → IsUnlessRefused o Q reply
    by_refusal (Some response) h = h
    by_refusal None h = f h

-- whether a row of that kind holds bytes
abbrev bytes_kind : Option Kind → Bool
bytes_kind None = false
bytes_kind (Some kind) = is_bytes kind

module _ (agent : Agent) (p q : Pod) (alike : Alike agent p q) (request : Request) (path : List ℕ)
    (readable : needs_read (conditions request.fields) ≡ true → row_at p.rows path ≡ row_at q.rows path) where
  is_row_same : (at : List ℕ) → is_row p.rows at ≡ is_row q.rows at
  is_row_same at = same_is_row_at p.rows q.rows alike.paths at

  condition_same : condition_refusal p request path ≡ condition_refusal q request path
  condition_same = same_condition agent p q alike request path readable

  -- ---- PUT

  put_refused : (seq : ℕ) (triples : List Triple) → put_refusal p request seq path triples ≡ put_refusal q request seq path triples
  put_refused seq triples =
      λ i. first_of (same_place agent p q alike request path seq i) (first_of (condition_same i) (same_content agent p q alike request path triples i))

  edits_same : (row : Row) (exists : Bool) → making_edits p row exists ≡ making_edits q row exists
  edits_same row true = refl
  edits_same row false = ap (λ (c : List Edit). cond (is_auxiliary row.path) (put_edits row) c) (same_creation p.rows q.rows alike.paths row)

  response_same : (exists : Bool) → made_response p path exists ≡ made_response q path exists
  response_same true = refl
  response_same false = ap (λ (b : List ℕ). created b path path) alike.base

  made_by : (origin : Origin) (bases : List Basis) (row : Row) (exists : Bool) → make_reply p request path origin bases row exists ≡ make_reply q request path origin bases row exists
  made_by origin bases row exists =
      λ i. change_reply (response_same exists i) (entry_of origin request.method path (edits_same row exists i) bases)

  make_same : (origin : Origin) (bases : List Basis) (row : Row)
      → make_reply p request path origin bases row (is_row p.rows path) ≡ make_reply q request path origin bases row (is_row q.rows path)
  make_same origin bases row = made_by origin bases row (is_row p.rows path) ∙ ap (make_reply q request path origin bases row) (is_row_same path)

  put_row_same : (origin : Origin) (bases : List Basis) (row : Row) → put_row_reply p request path origin bases row ≡ put_row_reply q request path origin bases row
  put_row_same origin bases row = λ i. unless_refused (put_refused origin.seq (triples_of row) i) (make_same origin bases row i)

  pub same_put : (origin : Origin) (bases : List Basis) (content : Content) → put_reply p request path origin bases content ≡ put_reply q request path origin bases content
  unfolding put_reply
  same_put origin bases content = put_row_same origin bases (row_of path content origin.stamp.moment)

  -- ---- DELETE

  removal_same : (seq : ℕ) → removal_refusal p request seq path ≡ removal_refusal q request seq path
  removal_same seq =
      λ i. first_of (refuse_if (same_has_children p.rows q.rows alike.paths path i) (conflict (codes "not-empty")))
      (first_of (same_room agent p q alike request path seq 0 i) (condition_same i))

  delete_refused : (seq : ℕ) → delete_refusal p request seq path ≡ delete_refusal q request seq path
  delete_refused seq = λ i. first_of (refuse_if (not (is_row_same path i)) (refusal 404 (codes "missing"))) (removal_same seq i)

  delete_edits_same : (modified : Moment) → delete_edits p path modified ≡ delete_edits q path modified
  delete_edits_same modified = ap (λ (d : List Edit). cond (is_auxiliary path) (removal_edits path) d) (same_deletion p.rows q.rows alike.paths path modified)

  pub same_delete : (origin : Origin) (bases : List Basis) → delete_reply p request path origin bases ≡ delete_reply q request path origin bases
  unfolding delete_reply
  same_delete origin bases =
      λ i. unless_refused (delete_refused origin.seq i) (change_reply changed (entry_of origin request.method path (delete_edits_same origin.stamp.moment i) bases))

  -- ---- POST

  member_refused : (seq : ℕ) (member : List ℕ) (content : Content) → member_refusal p request seq path member content ≡ member_refusal q request seq path member content
  unfolding member_refusal
  member_refused seq member content =
      λ i. first_of (same_room agent p q alike request path seq 1 i)
      (first_of (condition_same i) (refuse_if (states_containment member (triples_in content)) (conflict (codes "contains"))))

  member_same : (origin : Origin) (bases : List Basis) (member : List ℕ) (content : Content)
      → member_reply p request path origin bases member content ≡ member_reply q request path origin bases member content
  member_same origin bases member content =
      λ i. change_reply (created (alike.base i) path member)
      (entry_of origin request.method path (same_creation p.rows q.rows alike.paths (row_of member content origin.stamp.moment) i) bases)

  member_is : (origin : Origin) (bases : List Basis) (member : List ℕ) (read : Outcome) (reply : Reply)
      → IsMemberReply p request path origin bases member read reply → IsMemberReply q request path origin bases member read reply
  member_is origin bases member (Err fault) reply h = h
  member_is origin bases member (Ok bodies.Nothing) reply h = h
  member_is origin bases member (Ok (bodies.Content content)) reply h =
      h ∙ ap (unless_refused (containment_refusal member content)) (member_same origin bases member content)
  member_is origin bases member (Ok (bodies.Patch patch)) reply h = h
  member_is origin bases member (Ok (bodies.Update named)) reply h = h

  made_is : (origin : Origin) (bases : List Basis) (member : List ℕ) (reply : Reply) → IsMade p request path origin bases member reply → IsMade q request path origin bases member reply
  made_is origin bases member reply h = record {
    read = h.read;
    means = subst (λ (b : List ℕ). Means (uri_of b member) path request h.read) alike.base h.means;
    follows = member_is origin bases member h.read reply h.follows;
  }

  named_reply : (origin : Origin) (bases : List Basis) (content : Content) (named : Result (List ℕ) Response) (reply : Reply)
      → IsNamedReply p request path origin bases content named reply → IsNamedReply q request path origin bases content named reply
  named_reply origin bases content (Err response) reply h = h
  named_reply origin bases content (Ok member) reply h =
      made_unless (member_refusal p request origin.seq path member content) (member_refusal q request origin.seq path member content)
      (IsMade p request path origin bases member) (IsMade q request path origin bases member) reply
      (member_refused origin.seq member content) (made_is origin bases member reply) h

  free_is : (container stem : List ℕ) (folder : Bool) (at : List ℕ) → IsFreeIn p container stem folder at → IsFreeIn q container stem folder at
  free_is container stem folder at h = subst (λ (f : List ℕ → Bool). IsFreeName f container stem folder at) (same_is_row p.rows q.rows alike.paths) h

  named_is : (container stem : List ℕ) (folder : Bool) (named : Result (List ℕ) Response) → IsNamed p container stem folder named → IsNamed q container stem folder named
  named_is container stem folder (Ok at) h = record { first = free_is container stem folder at h.first; normal = h.normal }
  named_is container stem folder (Err response) h =
      (record { path = h.0.path; first = free_is container stem folder h.0.path h.0.first; fault = h.0.fault }, h.1)

  posted_is : (origin : Origin) (bases : List Basis) (content : Content) (reply : Reply) → IsPosted p request path origin bases content reply → IsPosted q request path origin bases content reply
  posted_is origin bases content reply h = record {
    named = h.named;
    is = named_is path (stem_of (slug request.fields)) (links_to_container request.fields) h.named h.is;
    follows = named_reply origin bases content h.named reply h.follows;
  }

  pub same_post : (origin : Origin) (bases : List Basis) (content : Content) (reply : Reply)
      → IsPostReply p request path origin bases content reply → IsPostReply q request path origin bases content reply
  same_post origin bases content reply h =
      made_unless (refuse_if (not (is_row p.rows path)) (refusal 404 (codes "missing"))) (refuse_if (not (is_row q.rows path)) (refusal 404 (codes "missing")))
      (IsPosted p request path origin bases content) (IsPosted q request path origin bases content) reply
      (ap (λ (b : Bool). refuse_if (not b) (refusal 404 (codes "missing"))) (is_row_same path)) (posted_is origin bases content reply) h

  -- ---- PATCH

  bytes_by : (o : Option Row) → is_bytes_row o ≡ bytes_kind (option_map kind_of o)
  bytes_by None = refl
  bytes_by (Some row) = refl

  bytes_same : is_bytes_row (row_at p.rows path) ≡ is_bytes_row (row_at q.rows path)
  bytes_same = bytes_by (row_at p.rows path) ∙ ap bytes_kind (same_kind p.rows q.rows alike.paths alike.kinds path) ∙ sym (bytes_by (row_at q.rows path))

  patch_refused : (seq : ℕ) → patch_refusal p request seq path ≡ patch_refusal q request seq path
  unfolding patch_refusal
  patch_refused seq =
      λ i. first_of (refuse_if (bytes_same i) (conflict (codes "not-graph"))) (first_of (same_place agent p q alike request path seq i) (condition_same i))

  -- a body that looks at the graph may read it
  body_is : (body : RequestBody) (outcome : Result Change PatchRefusal)
      → (has_conditions body ≡ true → row_at p.rows path ≡ row_at q.rows path) → (has_deletions body ≡ true → row_at p.rows path ≡ row_at q.rows path)
      → IsBodyOutcome body path (patched_triples (row_at p.rows path)) outcome → IsBodyOutcome body path (patched_triples (row_at q.rows path)) outcome
  body_is body outcome conditions_read deletions_read h = by_body (has_conditions body) refl (has_deletions body) refl
    where
      read : row_at p.rows path ≡ row_at q.rows path → IsBodyOutcome body path (patched_triples (row_at q.rows path)) outcome
      read e = subst (λ (o : Option Row). IsBodyOutcome body path (patched_triples o) outcome) e h

      by_body : (c : Bool) → has_conditions body ≡ c → (d : Bool) → has_deletions body ≡ d → IsBodyOutcome body path (patched_triples (row_at q.rows path)) outcome
      by_body true ec d ed = read (conditions_read ec)
      by_body false ec true ed = read (deletions_read ed)
      by_body false ec false ed = insertions_alone body path (patched_triples (row_at p.rows path)) (patched_triples (row_at q.rows path)) outcome ec ed h

  -- only the root's access list has a guard, and it is the same
  breaks_same : (change : Change) → breaks_guard p path (triples_after (patched_triples (row_at p.rows path)) change)
      ≡ breaks_guard q path (triples_after (patched_triples (row_at q.rows path)) change)
  unfolding breaks_guard
  breaks_same change = by_list (is_root_list path) refl
    where
      root_read : is_root_list path ≡ true → row_at p.rows path ≡ row_at q.rows path
      root_read e = list_is_same agent p q alike path (ap is_acl ((bytes_eq-Decides path (codes "/.acl")).0 e))

      by_list : (b : Bool) → is_root_list path ≡ b
          → (is_root_list path && not (guards p.base p.owner (triples_after (patched_triples (row_at p.rows path)) change)))
          ≡ (is_root_list path && not (guards q.base q.owner (triples_after (patched_triples (row_at q.rows path)) change)))
      by_list true e =
          λ i. is_root_list path && not (guards (alike.base i) (alike.owner i) (triples_after (patched_triples (root_read e i)) change))
      by_list false e =
          ap (λ (b : Bool). b && not (guards p.base p.owner (triples_after (patched_triples (row_at p.rows path)) change))) e
          ∙ sym (ap (λ (b : Bool). b && not (guards q.base q.owner (triples_after (patched_triples (row_at q.rows path)) change))) e)

  changing_by : (origin : Origin) (bases : List Basis) (change : Change) (exists : Bool)
      → changing_reply p request path origin bases change exists ≡ changing_reply q request path origin bases change exists
  changing_by origin bases change true = refl
  changing_by origin bases change false = made_by origin bases (new_row path change origin.stamp.moment) false

  changing_same : (origin : Origin) (bases : List Basis) (change : Change)
      → changing_reply p request path origin bases change (is_row p.rows path) ≡ changing_reply q request path origin bases change (is_row q.rows path)
  changing_same origin bases change = changing_by origin bases change (is_row p.rows path) ∙ ap (changing_reply q request path origin bases change) (is_row_same path)

  outcome_same : (origin : Origin) (bases : List Basis) (outcome : Result Change PatchRefusal)
      → outcome_reply p request path origin bases outcome ≡ outcome_reply q request path origin bases outcome
  outcome_same origin bases (Err refused) = refl
  outcome_same origin bases (Ok change) =
      λ i. unless_refused (refuse_if (breaks_same change i) (conflict (codes "owner"))) (changing_same origin bases change i)

  applied_is : (origin : Origin) (bases : List Basis) (body : RequestBody) (reply : Reply)
      → (has_conditions body ≡ true → row_at p.rows path ≡ row_at q.rows path) → (has_deletions body ≡ true → row_at p.rows path ≡ row_at q.rows path)
      → IsApplied p request path origin bases body reply → IsApplied q request path origin bases body reply
  applied_is origin bases body reply c d h = record {
    outcome = h.outcome;
    is = body_is body h.outcome c d h.is;
    graphs = h.graphs;
    follows = h.follows ∙ outcome_same origin bases h.outcome;
  }

  pub same_patch : (origin : Origin) (bases : List Basis) (body : RequestBody) (reply : Reply)
      → (has_conditions body ≡ true → row_at p.rows path ≡ row_at q.rows path) → (has_deletions body ≡ true → row_at p.rows path ≡ row_at q.rows path)
      → IsPatchReply p request path origin bases body reply → IsPatchReply q request path origin bases body reply
  same_patch origin bases body reply c d h =
      made_unless (patch_refusal p request origin.seq path) (patch_refusal q request origin.seq path)
      (IsApplied p request path origin bases body) (IsApplied q request path origin bases body) reply
      (patch_refused origin.seq) (applied_is origin bases body reply c d) h
