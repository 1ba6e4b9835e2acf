-- The edits of the entry of a reply, by the method and the body of its request.
use Rattle.std.proofs.Common.{◌≡◌, ℕ, Bool, true, false, cond, List, Option, Some, None, Result, Ok, Err, refl, sym, ap, ◌∙◌}
use Rattle.patch_outcome.specs.Outcomes.{HasGraphs}
use Rattle.patch_outcome.specs.declared.patch_refusals.PatchRefusal.{PatchRefusal}
use Rattle.pod_base.specs.declared.method.Method.{Method}
use Rattle.pod_base.specs.declared.method.Method.TheVariants.{Get, Head, Options, Post, Put, Patch as PatchMethod, Delete, Other}
use Rattle.pod_base.specs.declared.moment.Moment.{Moment}
use Rattle.pod_base.specs.declared.moment.Stamp.{Stamp}
use Rattle.pod_base.specs.declared.request.Request.{Request}
use Rattle.pod_base.specs.declared.response.Response.{Response}
use Rattle.pod_command.specs.declared.basis.Basis.{Basis}
use Rattle.pod_command.specs.declared.edit.Edit.{Edit}
use Rattle.pod_command.specs.declared.entry.Entry.{Entry}
use Rattle.pod_command.specs.declared.row.Content.{Content as RowContent}
use Rattle.pod_edits.specs.Edits.{change_edits, creation_edits}
use Rattle.pod_path.specs.Hierarchy.{uri_of}
use Rattle.pod_reply.specs.AccessRank.{access_of}
use Rattle.pod_reply.specs.DeleteReplies.{delete_edits, delete_refusal, delete_reply}
use Rattle.pod_reply.specs.EntrySize.{is_too_large, size_refusal}
use Rattle.pod_reply.specs.MemberNames.{IsMemberPath, IsNamed}
use Rattle.pod_reply.specs.PatchReplies.{IsApplied, IsBodyOutcome, changing_reply, guard_refusal, new_row, outcome_reply, patch_refusal, patched_triples}
use Rattle.pod_reply.specs.PostReplies.{IsMade, IsMemberReply, IsNamedReply, IsPosted, containment_refusal, member_refusal, member_reply}
use Rattle.pod_reply.specs.PutReplies.{IsUnlessRefused, make_reply, making_edits, put_refusal, put_reply, row_of, unless_refused}
use Rattle.pod_reply.specs.Replies.{Reply, change_reply, changed_by, unchanged}
use Rattle.pod_reply.specs.Reply.{IsAdmittedReply, IsGrantedReply, IsMemberPost, IsMethodReply, IsPutReply, IsReadReply, IsReply, body_base, origin_of}
use Rattle.pod_reply.specs.Shapes.{shape_of}
use Rattle.pod_reply.specs.declared.origin.Origin.{Origin}
use Rattle.pod_rows.specs.Pod.{Pod, is_row, row_at}
use Rattle.pod_edits.specs.Allowed.{triples_of}
use Rattle.rdf_graph.specs.declared.change.Change.{Change}
use Rattle.request_body.specs.Bodies.{Means, Outcome}
use Rattle.request_body.specs.declared.body.RequestBody.{RequestBody}
use Rattle.request_body.specs.declared.body.RequestBody.TheVariants as bodies
use Rattle.request_fields.specs.Links.{links_to_container}
use Rattle.request_fields.specs.PartFields.{slug}
use Rattle.request_target.specs.Admission.{admitted}
use Rattle.request_target.specs.declared.target.Target.{Target}
use Rattle.request_target.specs.declared.target.Target.TheVariants.{Server, Resource}
use Rattle.slug_naming.specs.Stems.{stem_of}
use Rattle.token_table.specs.Credentials.{AskedAgent}

-- ---- what the edits are

module _ (pod : Pod) (request : Request) (path : List ℕ) (modified : Moment) where
  -- those of a POST
  pub record PostEdits (list : List Edit) : Type 0 where
    pub member : List ℕ
    pub content : RowContent
    pub named : IsMemberPath pod path (stem_of (slug request.fields)) (links_to_container request.fields) member
    pub means : Means (uri_of pod.base member) path request (Ok (bodies.Content content))
    pub are : list ≡ creation_edits pod.rows (row_of member content modified)

  -- those of a change, where there is a row and where there is none
  abbrev pub changing_edits : Change → Bool → List Edit
  changing_edits change true = change_edits path change modified
  changing_edits change false = making_edits pod (new_row path change modified) false

  pub record PatchEdits (body : RequestBody) (list : List Edit) : Type 0 where
    pub change : Change
    pub outcome : IsBodyOutcome body path (patched_triples (row_at pod.rows path)) (Ok change)
    pub graphs : HasGraphs (Ok change)
    pub are : list ≡ changing_edits change (is_row pod.rows path)

  abbrev pub PutEdits : RequestBody → List Edit → Type 0
  PutEdits (bodies.Content content) list = list ≡ making_edits pod (row_of path content modified) (is_row pod.rows path)
  PutEdits bodies.Nothing list = ⊥
  PutEdits (bodies.Patch patch) list = ⊥
  PutEdits (bodies.Update named) list = ⊥

  abbrev pub HasEdits : Method → RequestBody → List Edit → Type 0
  HasEdits Get body list = ⊥
  HasEdits Head body list = ⊥
  HasEdits Options body list = ⊥
  HasEdits Post body list = PostEdits list
  HasEdits Put body list = PutEdits body list
  HasEdits PatchMethod body list = PatchEdits body list
  HasEdits Delete body list = list ≡ delete_edits pod path modified
  HasEdits Other body list = ⊥

-- The entry of a reply has these edits.
pub record Makes (pod : Pod) (request : Request) (asked : AskedAgent) (modified : Moment) (list : List Edit) : Type 0 where
  pub path : List ℕ
  pub target : admitted pod.base request asked ≡ Ok (Resource path)
  pub body : RequestBody
  pub means : Means (body_base request.method pod request path) path request (Ok body)
  pub edits : HasEdits pod request path modified request.method body list

-- ---- replies with an entry

entry_unchanged : (told : Reply) (response : Response) (entry : Entry) → told ≡ unchanged response → told.entry ≡ Some entry → ⊥
entry_unchanged told response entry is has = let none : None ≡ Some entry = sym (ap (λ (r : Reply). r.entry) is) ∙ has in cc

entry_unless : (o : Option Response) (reply : Reply) (entry : Entry) → (unless_refused o reply).entry ≡ Some entry → reply.entry ≡ Some entry
entry_unless (Some response) reply entry has = absurd cc
entry_unless None reply entry has = has

entry_change : (response : Response) (made entry : Entry) → (change_reply response made).entry ≡ Some entry → entry.edits.items ≡ made.edits.items
entry_change response made entry has = by_test (is_too_large made) has
  where
    by_test : (b : Bool) → (changed_by response (cond b (Err size_refusal) (Ok made))).entry ≡ Some entry → entry.edits.items ≡ made.edits.items
    by_test true k = absurd cc
    by_test false k = let same : made ≡ entry = cc in ap (λ (e : Entry). e.edits.items) (sym same)

made_unless : (o : Option Response) (P : Reply → Type 0) (told : Reply) (entry : Entry) → IsUnlessRefused o P told → told.entry ≡ Some entry → P told
made_unless (Some response) P told entry h has = absurd (entry_unchanged told response entry h has)
made_unless None P told entry h has = h

module _ (pod : Pod) (request : Request) (path : List ℕ) (origin : Origin) (bases : List Basis) (told : Reply) (entry : Entry) (has : told.entry ≡ Some entry) where
  abbrev when : Moment
  when = origin.stamp.moment

  has_of : (reply : Reply) → told ≡ reply → reply.entry ≡ Some entry
  has_of reply is = sym (ap (λ (r : Reply). r.entry) is) ∙ has

  -- ---- PUT

  put_has : (content : RowContent) → told ≡ put_reply pod request path origin bases content → entry.edits.items ≡ making_edits pod (row_of path content when) (is_row pod.rows path)
  unfolding put_reply
  put_has content is =
      let row = row_of path content when in
      entry_change _ _ entry (entry_unless (put_refusal pod request origin.seq path (triples_of row)) (make_reply pod request path origin bases row (is_row pod.rows path)) entry (has_of _ is))

  put_edits_of : (body : RequestBody) → IsPutReply pod request path origin bases body told → PutEdits pod request path when body entry.edits.items
  put_edits_of (bodies.Content content) h = put_has content h
  put_edits_of bodies.Nothing h = h
  put_edits_of (bodies.Patch patch) h = h
  put_edits_of (bodies.Update named) h = h

  -- ---- POST

  member_has : (member : List ℕ) (read : Outcome) → IsMemberPath pod path (stem_of (slug request.fields)) (links_to_container request.fields) member
      → Means (uri_of pod.base member) path request read → IsMemberReply pod request path origin bases member read told → PostEdits pod request path when entry.edits.items
  member_has member (Err fault) named means h = absurd (entry_unchanged told size_refusal entry h has)
  member_has member (Ok (bodies.Content content)) named means h = record {
    member = member;
    content = content;
    named = named;
    means = means;
    are = entry_change _ _ entry (entry_unless (containment_refusal member content) (member_reply pod request path origin bases member content) entry (has_of _ h));
  }
  member_has member (Ok bodies.Nothing) named means h = absurd h
  member_has member (Ok (bodies.Patch patch)) named means h = absurd h
  member_has member (Ok (bodies.Update update)) named means h = absurd h

  named_has : (content : RowContent) (named : Result (List ℕ) Response) → IsNamed pod path (stem_of (slug request.fields)) (links_to_container request.fields) named
      → IsNamedReply pod request path origin bases content named told → PostEdits pod request path when entry.edits.items
  named_has content (Err response) is h = absurd (entry_unchanged told response entry h has)
  named_has content (Ok member) is h =
      let made = made_unless (member_refusal pod request origin.seq path member content) (IsMade pod request path origin bases member) told entry h has in
      member_has member made.read is made.means made.follows

  post_has : (body : RequestBody) → IsMemberPost pod request path origin bases body told → PostEdits pod request path when entry.edits.items
  post_has (bodies.Content content) h =
      let posted = made_unless _ (IsPosted pod request path origin bases content) told entry h has in
      named_has content posted.named posted.is posted.follows
  post_has bodies.Nothing h = absurd h
  post_has (bodies.Patch patch) h = absurd h
  post_has (bodies.Update named) h = absurd h

  -- ---- PATCH

  changing_has : (change : Change) (exists : Bool) → (changing_reply pod request path origin bases change exists).entry ≡ Some entry → entry.edits.items ≡ changing_edits pod request path when change exists
  changing_has change true k = entry_change _ _ entry k
  changing_has change false k = entry_change _ _ entry k

  outcome_has : (body : RequestBody) (outcome : Result Change PatchRefusal) → IsBodyOutcome body path (patched_triples (row_at pod.rows path)) outcome → HasGraphs outcome
      → told ≡ outcome_reply pod request path origin bases outcome → PatchEdits pod request path when body entry.edits.items
  outcome_has body (Err refusal) is graphs h = absurd (entry_unchanged told _ entry h has)
  outcome_has body (Ok change) is graphs h = record {
    change = change;
    outcome = is;
    graphs = graphs;
    are = changing_has change (is_row pod.rows path)
        (entry_unless (guard_refusal pod path change) (changing_reply pod request path origin bases change (is_row pod.rows path)) entry (has_of _ h));
  }

  patch_has : (body : RequestBody) → IsUnlessRefused (patch_refusal pod request origin.seq path) (IsApplied pod request path origin bases body) told → PatchEdits pod request path when body entry.edits.items
  patch_has body h =
      let applied = made_unless (patch_refusal pod request origin.seq path) (IsApplied pod request path origin bases body) told entry h has in
      outcome_has body applied.outcome applied.is applied.graphs applied.follows

  -- ---- DELETE

  delete_has : told ≡ delete_reply pod request path origin bases → entry.edits.items ≡ delete_edits pod path when
  unfolding delete_reply
  delete_has is = entry_change _ _ entry (entry_unless (delete_refusal pod request origin.seq path) _ entry (has_of _ is))

  method_has : (method : Method) (body : RequestBody) → IsMethodReply method pod request path origin bases body told → HasEdits pod request path when method body entry.edits.items
  method_has Get body h = entry_unchanged told _ entry h has
  method_has Head body h = entry_unchanged told _ entry h has
  method_has Options body h = entry_unchanged told _ entry h has
  method_has Post body h = post_has body h
  method_has Put body h = put_edits_of body h
  method_has PatchMethod body h = patch_has body h
  method_has Delete body h = delete_has h
  method_has Other body h = h

-- ---- the whole reply

module _ (pod : Pod) (request : Request) (asked : AskedAgent) (seq : ℕ) (stamp : Stamp) (told : Reply) (entry : Entry) (has : told.entry ≡ Some entry) where
  abbrev origin : Origin
  origin = origin_of asked seq stamp

  granted_has : (path : List ℕ) (body : RequestBody) (access : Result (List Basis) Response) → IsGrantedReply pod request path origin body access told
      → HasEdits pod request path stamp.moment request.method body entry.edits.items
  granted_has path body (Err response) h = absurd (entry_unchanged told response entry h has)
  granted_has path body (Ok bases) h = method_has pod request path origin bases told entry has request.method body h

  read_makes : (path : List ℕ) (read : Outcome) → admitted pod.base request asked ≡ Ok (Resource path) → Means (body_base request.method pod request path) path request read
      → IsReadReply pod request path origin read told → Makes pod request asked stamp.moment entry.edits.items
  read_makes path (Err fault) target means h = absurd (entry_unchanged told _ entry h has)
  read_makes path (Ok body) target means h = record {
    path = path;
    target = target;
    body = body;
    means = means;
    edits = granted_has path body (access_of pod origin.agent (shape_of pod request path body)) h;
  }

  admitted_makes : (target : Result Target Response) → admitted pod.base request asked ≡ target → IsAdmittedReply pod request origin target told → Makes pod request asked stamp.moment entry.edits.items
  admitted_makes (Err response) e h = absurd (entry_unchanged told response entry h has)
  admitted_makes (Ok Server) e h = absurd (entry_unchanged told _ entry h has)
  admitted_makes (Ok (Resource path)) e h = read_makes path h.read e h.means h.follows

pub makes : (pod : Pod) (request : Request) (asked : AskedAgent) (seq : ℕ) (stamp : Stamp) (reply : Reply) (entry : Entry) → IsReply pod request asked seq stamp reply → reply.entry ≡ Some entry
    → Makes pod request asked stamp.moment entry.edits.items
makes pod request asked seq stamp reply entry h has =
    admitted_makes pod request asked seq stamp h.told entry (sym (ap (λ (r : Reply). r.entry) h.is_sent) ∙ has) (admitted pod.base request asked) refl h.is
