-- The replies to granted changes: a refusal, or the entry of the change.
use Rattle.std.proofs.Common.{◌≡◌, ℕ, suc, Bool, true, false, true≢false, not, ◌||◌, List, [], ◌∷◌, Option, Some, None, Result, Ok, Err, refl, sym, ap, subst, ◌∙◌, codes}
use Rattle.std.specs.Prelude.{length}
use Rattle.std.proofs.lemmas.Bool.{or_parts}
use Rattle.pod_access.specs.Bases.{bases_of, basis_of, with_basis}
use Rattle.pod_base.specs.declared.agent.Agent.{Agent}
use Rattle.pod_base.specs.declared.method.Method.{Method}
use Rattle.pod_base.specs.declared.method.Method.TheVariants.{Post, Put, Patch, Delete}
use Rattle.pod_base.specs.declared.moment.Stamp.{Stamp}
use Rattle.pod_base.specs.declared.request.Request.{Request}
use Rattle.pod_base.specs.declared.response.Response.{Response}
use Rattle.pod_command.specs.declared.basis.Basis.{Basis}
use Rattle.pod_command.specs.declared.edit.Edit.{Edit}
use Rattle.pod_command.specs.declared.entry.Entry.{Entry}
use Rattle.pod_command.specs.declared.row.Content.{Content as RowContent}
use Rattle.pod_command.specs.declared.row.Content.TheVariants as contents
use Rattle.pod_command.specs.declared.row.Row.{Row}
use Rattle.pod_edits.specs.Allowed.{IsFitting, triples_of}
use Rattle.pod_edits.specs.Edits.{change_edits, creation_edits}
use Rattle.pod_edits.specs.Refusals.{breaks_guard, is_root_list, states_containment}
use Rattle.pod_edits.proofs.Trees.{path_of_norm}
use Rattle.pod_path.specs.Hierarchy.{is_container, is_root, uri_of}
use Rattle.pod_path.specs.Norm.{norm}
use Rattle.pod_responses.specs.Allow.{is_allowed, is_removable}
use Rattle.pod_responses.specs.Links.{about_links}
use Rattle.pod_responses.specs.Responses.{changed, created, refusal}
use Rattle.pod_rows.specs.Apply.{Applies}
use Rattle.pod_rows.specs.Pod.{Pod, is_row, row_at}
use Rattle.pod_rows.specs.View.{triples_in}
use Rattle.pod_rows.specs.WellFormed.{WellFormed}
use Rattle.patch_outcome.specs.Outcomes.{word_of}
use Rattle.patch_outcome.specs.declared.patch_refusals.PatchRefusal.{PatchRefusal}
use Rattle.pod_reply.specs.DeleteReplies.{delete_edits, delete_refusal, delete_reply}
use Rattle.pod_reply.specs.EntrySize.{size_refusal}
use Rattle.pod_reply.specs.MemberNames.{IsMemberPath, IsNamed}
use Rattle.pod_reply.specs.Obstacles.{conflict, refuse_if}
use Rattle.pod_reply.specs.PatchReplies.{IsApplied, IsBodyOutcome, IsPatchReply, changing_reply, guard_refusal, new_row, outcome_reply, patch_refusal, patched_triples, triples_after}
use Rattle.pod_reply.specs.PostReplies.{IsMade as IsMemberMade, IsMemberReply, IsNamedReply, IsPostReply, IsPosted, containment_refusal, judged_member, member_refusal}
use Rattle.pod_reply.specs.PutReplies.{IsUnlessRefused, made_response, make_reply, making_edits, place_refusal, put_refusal, put_reply, row_of}
use Rattle.pod_reply.specs.Replies.{Reply, change_reply, entry_of}
use Rattle.pod_reply.specs.Reply.{agent_of, body_base, origin_of}
use Rattle.pod_reply.specs.Shapes.{shape_of}
use Rattle.rdf_graph.specs.declared.change.Change.{Change}
use Rattle.rdf_graph.specs.declared.triple.Triple.{Triple}
use Rattle.request_body.specs.Bodies.{Means, Outcome}
use Rattle.request_body.specs.declared.body.RequestBody.{RequestBody}
use Rattle.request_body.specs.declared.body.RequestBody.TheVariants.{Nothing, Content, Patch as PatchBody, Update}
use Rattle.request_fields.specs.Links.{links_to_container}
use Rattle.request_fields.specs.PartFields.{slug}
use Rattle.request_target.specs.Admission.{admitted}
use Rattle.request_target.specs.declared.target.Target.TheVariants.{Resource}
use Rattle.slug_naming.specs.Stems.{stem_of}
use Rattle.token_table.specs.Credentials.{AskedAgent}
use Rattle.pod_access.specs.Needs.{needs_of}
use Rattle.pod_access.specs.declared.request_needs.Need.{Need}
use Rattle.reply_laws.specs.Granted.{IsGranted, is_change}
use Rattle.reply_laws.proofs.Applying.{HasRoom, by_changing, by_making, by_posting, by_removing, has_room}
use Rattle.reply_laws.proofs.Contents.{IsRightChange, fitting_row, new_graph_lacks, patch_right, post_held, put_held, states_none, update_right}
use Rattle.reply_laws.proofs.Fields.{about_are_lines, first}
use Rattle.pod_command.specs.Encodable.{IsFittingEdit}
use Rattle.std.specs.List.{AllByRecursion}
use Rattle.reply_laws.proofs.Encoding.{changing, creation_fits, delete_fits, making_fits}
use Rattle.reply_laws.proofs.Lines.{uri_stays}
use Rattle.reply_laws.proofs.Members.{IsMember, member_of}
use Rattle.reply_laws.proofs.PlainRefusals.{delete_free, delete_plain, member_plain, member_room, patch_free, patch_plain, put_free, put_plain, word_plain}
use Rattle.reply_laws.proofs.ReadKinds.{base_stays, normal_stays}
use Rattle.reply_laws.proofs.ReplyKinds.{AllPlain, IsPlain, IsShown, Kind, change_kind, none_if, plain_if, unless_kind}
use Rattle.reply_laws.proofs.ReplyKinds.Kind.{refused}

-- ---- one basis for each need

bases_count : (pod : Pod) (agent : Agent) (needs : List Need) (bases : List Basis) → bases_of pod agent needs ≡ Some bases → length bases ≡ length needs
bases_count pod agent [] bases e = (let same : [] ≡ bases = cc in ap length (sym same))
bases_count pod agent (need ∷ needs) bases e =
    by_first (basis_of pod agent need) (bases_of pod agent needs) e (λ more h. bases_count pod agent needs more h)
  where
    by_first : (o : Option Basis) (p : Option (List Basis)) → with_basis o p ≡ Some bases → ((more : List Basis) → p ≡ Some more → length more ≡ length needs)
        → length bases ≡ suc (length needs)
    by_first None p h k = absurd cc
    by_first (Some basis) None h k = absurd cc
    by_first (Some basis) (Some more) h k = (let same : basis ∷ more ≡ bases = cc in ap length (sym same) ∙ ap suc (k more refl))

-- A request to a path whose body means this, and which is granted with these bases.
pub record IsAsked (pod : Pod) (request : Request) (asked : AskedAgent) (path : List ℕ) (body : RequestBody)
    (bases : List Basis) : Type 0 where
  pub target : admitted pod.base request asked ≡ Ok (Resource path)
  pub normal : norm path ≡ Ok path
  pub allowed : is_allowed path request.method ≡ true
  pub means : Means (body_base request.method pod request path) path request (Ok body)
  pub bases_are : bases_of pod (agent_of asked) (needs_of (shape_of pod request path body)) ≡ Some bases

is_false : (b : Bool) → not b ≡ true → b ≡ false
is_false true e = absurd cc
is_false false e = refl

module _ (pod : Pod) (request : Request) (asked : AskedAgent) (seq : ℕ) (stamp : Stamp) (path : List ℕ) (bases : List Basis) where
  -- The entry with these edits.
  abbrev entry_with : List Edit → Entry
  entry_with edits = entry_of (origin_of asked seq stamp) request.method path edits bases

  granted_entry : (body : RequestBody) (edits : List Edit) → IsAsked pod request asked path body bases → IsGranted pod request asked stamp (entry_with edits)
  granted_entry body edits a = record {
    conn = refl;
    number = refl;
    moment = refl;
    agent = refl;
    method = refl;
    target = a.target;
    body = body;
    means = a.means;
    bases = a.bases_are;
    each = bases_count pod (agent_of asked) (needs_of (shape_of pod request path body)) bases a.bases_are;
  }

  entry_kind : (body : RequestBody) (edits : List Edit) (response : Response) → IsAsked pod request asked path body bases → is_change request.method ≡ true
      → IsShown pod response → AllByRecursion IsFittingEdit edits → (WellFormed pod → Applies pod seq (entry_with edits))
      → Kind pod request asked seq stamp (change_reply response (entry_with edits))
  entry_kind body edits response a change shows fitting applies =
      change_kind pod request asked seq stamp response (entry_with edits) shows
      (record {
        change = change;
        applies = applies;
        granted = granted_entry body edits a;
        encodable = record { method = changing request.method change; edits = fitting };
      })

  changed_shown : IsShown pod changed
  changed_shown = record { status = refl; fields = λ w. refl }

  created_shown : (member : List ℕ) → norm path ≡ Ok path → norm member ≡ Ok member → IsShown pod (created pod.base path member)
  created_shown member normal member_normal = record {
    status = refl;
    fields = λ w. first (codes "Location") (uri_of pod.base member) (about_links pod.base path) refl
        (uri_stays pod.base member (base_stays pod w) (normal_stays member member_normal))
        (about_are_lines pod.base path (base_stays pod w) (normal_stays path normal));
  }

  made_shown : (exists : Bool) → norm path ≡ Ok path → IsShown pod (made_response pod path exists)
  made_shown true normal = changed_shown
  made_shown false normal = created_shown path normal normal

  -- a row is made, or replaced
  make_kind : (body : RequestBody) (row : Row) (exists : Bool) → IsAsked pod request asked path body bases → is_change request.method ≡ true → row.path ≡ path
      → is_row pod.rows row.path ≡ exists → IsFitting row → (exists ≡ true → breaks_guard pod row.path (triples_of row) ≡ false)
      → place_refusal pod seq row.path exists ≡ None
      → Kind pod request asked seq stamp (make_reply pod request path (origin_of asked seq stamp) bases row exists)
  make_kind body row exists a change at is fitting guard none =
      entry_kind body (making_edits pod row exists) (made_response pod path exists) a change (made_shown exists a.normal) (making_fits pod row exists fitting)
      (λ w. by_making pod seq w (entry_with (making_edits pod row exists)) refl row exists is fitting guard none refl)

  -- ---- PUT

  put_row_kind : (content : RowContent) → IsAsked pod request asked path (Content content) bases → request.method ≡ Put
      → put_refusal pod request seq path (triples_in content) ≡ None
      → Kind pod request asked seq stamp (make_reply pod request path (origin_of asked seq stamp) bases (row_of path content stamp.moment) (is_row pod.rows path))
  put_row_kind content a is none =
      (let free = put_free pod request seq path (triples_in content) none in
      let fitting = fitting_row path content stamp.moment a.normal (put_held (body_base request.method pod request path) path request content is a.means) free.containment in
      make_kind (Content content) (row_of path content stamp.moment) (is_row pod.rows path) a (ap is_change is) refl refl fitting (λ e. free.guard) free.place)

  pub put_kind : (content : RowContent) → IsAsked pod request asked path (Content content) bases → request.method ≡ Put
      → Kind pod request asked seq stamp (put_reply pod request path (origin_of asked seq stamp) bases content)
  unfolding put_reply
  put_kind content a is =
      unless_kind pod request asked seq stamp (put_refusal pod request seq path (triples_in content)) _ (put_plain pod request seq path (triples_in content)) (λ none. put_row_kind content a is none)

  -- ---- PATCH

  right_change : (body : RequestBody) (g : List Triple) (change : Change) → IsBodyOutcome body path g (Ok change) → IsRightChange (is_container path) g change
  right_change Nothing g change h = absurd h
  right_change (Content content) g change h = absurd h
  right_change (PatchBody patch) g change h = patch_right (is_container path) g patch change h
  right_change (Update named) g change h = update_right (is_container path) g named.items change h

  change_row_kind : (body : RequestBody) (change : Change) (exists : Bool) → IsAsked pod request asked path body bases → request.method ≡ Patch
      → patch_refusal pod request seq path ≡ None → IsRightChange (is_container path) (patched_triples (row_at pod.rows path)) change
      → guard_refusal pod path change ≡ None → is_row pod.rows path ≡ exists
      → Kind pod request asked seq stamp (changing_reply pod request path (origin_of asked seq stamp) bases change exists)
  change_row_kind body change true a is none right guard exists =
      (let free = patch_free pod request seq path none in
      let place : place_refusal pod seq path true ≡ None = subst (λ (b : Bool). place_refusal pod seq path b ≡ None) exists free.place in
      entry_kind body (change_edits path change stamp.moment) changed a (ap is_change is) changed_shown (tt, tt)
      (λ w. by_changing pod seq w (entry_with (change_edits path change stamp.moment)) refl path change stamp.moment exists free.graph right
      (none_if (breaks_guard pod path (triples_after (patched_triples (row_at pod.rows path)) change)) _ guard) (has_room pod seq 0 place).number refl))
  change_row_kind body change false a is none right guard exists =
      (let free = patch_free pod request seq path none in
      let place : place_refusal pod seq path false ≡ None = subst (λ (b : Bool). place_refusal pod seq path b ≡ None) exists free.place in
      let triples = triples_after [] change in
      let fitting = fitting_row path (contents.Graph triples) stamp.moment a.normal refl (states_none path triples (λ closed. new_graph_lacks change (right.lacks closed))) in
      make_kind body (new_row path change stamp.moment) false a (ap is_change is) refl exists fitting (λ e. absurd (true≢false (sym e))) place)

  outcome_kind : (body : RequestBody) (outcome : Result Change PatchRefusal) → IsAsked pod request asked path body bases → request.method ≡ Patch
      → patch_refusal pod request seq path ≡ None → IsBodyOutcome body path (patched_triples (row_at pod.rows path)) outcome
      → Kind pod request asked seq stamp (outcome_reply pod request path (origin_of asked seq stamp) bases outcome)
  outcome_kind body (Err refusal) a is none h = refused (conflict (word_of refusal)) (word_plain (word_of refusal))
  outcome_kind body (Ok change) a is none h =
      unless_kind pod request asked seq stamp (guard_refusal pod path change) _
      (plain_if (breaks_guard pod path (triples_after (patched_triples (row_at pod.rows path)) change)) (conflict (codes "owner")) (word_plain (codes "owner")))
      (λ guard. change_row_kind body change (is_row pod.rows path) a is none (right_change body (patched_triples (row_at pod.rows path)) change h) guard refl)

  patched_kind : (body : RequestBody) (told : Reply) (o : Option Response) → IsAsked pod request asked path body bases → request.method ≡ Patch
      → patch_refusal pod request seq path ≡ o → IsUnlessRefused o (IsApplied pod request path (origin_of asked seq stamp) bases body) told
      → Kind pod request asked seq stamp told
  patched_kind body told (Some response) a is e h =
      (let plain : IsPlain response = subst AllPlain e (patch_plain pod request seq path) in
      subst (Kind pod request asked seq stamp) (sym h) (refused response plain))
  patched_kind body told None a is e h = subst (Kind pod request asked seq stamp) (sym h.follows) (outcome_kind body h.outcome a is e h.is)

  pub patch_kind : (body : RequestBody) (told : Reply) → IsAsked pod request asked path body bases → request.method ≡ Patch
      → IsPatchReply pod request path (origin_of asked seq stamp) bases body told → Kind pod request asked seq stamp told
  patch_kind body told a is h = patched_kind body told (patch_refusal pod request seq path) a is refl h

  -- ---- DELETE

  removable : request.method ≡ Delete → is_allowed path request.method ≡ true → (is_root path ≡ false) × (is_root_list path ≡ false)
  removable is h =
      (let stays : is_removable path ≡ true = subst (λ (m : Method). is_allowed path m ≡ true) is h in
      or_parts (is_root path) (is_root_list path) (is_false (is_root path || is_root_list path) stays))

  pub delete_kind : (body : RequestBody) → IsAsked pod request asked path body bases → request.method ≡ Delete
      → Kind pod request asked seq stamp (delete_reply pod request path (origin_of asked seq stamp) bases)
  unfolding delete_reply
  delete_kind body a is =
      unless_kind pod request asked seq stamp (delete_refusal pod request seq path) _ (delete_plain pod request seq path)
      (λ none. (let free = delete_free pod request seq path none in
      let stays = removable is a.allowed in
      entry_kind body (delete_edits pod path stamp.moment) changed a (ap is_change is) changed_shown (delete_fits pod path stamp.moment)
      (λ w. by_removing pod seq w (entry_with (delete_edits pod path stamp.moment)) refl path stamp.moment free.present stays.0 stays.1 free.children (has_room pod seq 0 free.room).number refl)))

  -- ---- POST

  takes_members : request.method ≡ Post → is_allowed path request.method ≡ true → is_container path ≡ true
  takes_members is h = subst (λ (m : Method). is_allowed path m ≡ true) is h

  is_member : (member : List ℕ) → request.method ≡ Post → norm path ≡ Ok path → is_container path ≡ true
      → IsMemberPath pod path (stem_of (slug request.fields)) (links_to_container request.fields) member
      → IsMember path (links_to_container request.fields) member
  is_member member is normal closed named =
      (let normal_member = subst (λ (m : List ℕ). norm m ≡ Ok m) named.first.is named.normal in
      subst (IsMember path (links_to_container request.fields)) (sym named.first.is)
      (member_of path (slug request.fields) (links_to_container request.fields) named.first.number (path_of_norm path normal) closed normal_member))

  member_kind : (first_content content : RowContent) (member : List ℕ) → IsAsked pod request asked path (Content first_content) bases → request.method ≡ Post
      → is_row pod.rows path ≡ true → IsMemberPath pod path (stem_of (slug request.fields)) (links_to_container request.fields) member
      → HasRoom pod seq 1 → Means (uri_of pod.base member) path request (Ok (Content content))
      → Kind pod request asked seq stamp (judged_member pod request path (origin_of asked seq stamp) bases member content)
  member_kind first_content content member a is here named room means =
      unless_kind pod request asked seq stamp (containment_refusal member content) _
      (plain_if (states_containment member (triples_in content)) (conflict (codes "contains")) (word_plain (codes "contains")))
      (λ none. (let closed = takes_members is a.allowed in
      let of_path = is_member member is a.normal closed named in
      let holds = post_held (uri_of pod.base member) path member request content is of_path.kind of_path.plain means in
      let fitting = fitting_row member content stamp.moment named.normal holds (none_if (states_containment member (triples_in content)) _ none) in
      let row = row_of member content stamp.moment in
      entry_kind (Content first_content) (creation_edits pod.rows row) (created pod.base path member) a (ap is_change is) (created_shown member a.normal named.normal) (creation_fits pod.rows row fitting)
      (λ w. by_posting pod seq w (entry_with (creation_edits pod.rows row)) refl path (links_to_container request.fields) row here of_path fitting named.first.free room refl)))

  read_member_kind : (first_content : RowContent) (member : List ℕ) (read : Outcome) (told : Reply) → IsAsked pod request asked path (Content first_content) bases
      → request.method ≡ Post → is_row pod.rows path ≡ true
      → IsMemberPath pod path (stem_of (slug request.fields)) (links_to_container request.fields) member
      → HasRoom pod seq 1 → Means (uri_of pod.base member) path request read
      → IsMemberReply pod request path (origin_of asked seq stamp) bases member read told → Kind pod request asked seq stamp told
  read_member_kind first_content member (Err fault) told a is here named room means h =
      subst (Kind pod request asked seq stamp) (sym h) (refused size_refusal (record { status = refl; fields = refl }))
  read_member_kind first_content member (Ok Nothing) told a is here named room means h = absurd h
  read_member_kind first_content member (Ok (Content content)) told a is here named room means h =
      subst (Kind pod request asked seq stamp) (sym h) (member_kind first_content content member a is here named room means)
  read_member_kind first_content member (Ok (PatchBody patch)) told a is here named room means h = absurd h
  read_member_kind first_content member (Ok (Update named_triples)) told a is here named room means h = absurd h

  unless_member_kind : (content : RowContent) (member : List ℕ) (told : Reply) (o : Option Response) → IsAsked pod request asked path (Content content) bases
      → request.method ≡ Post → is_row pod.rows path ≡ true
      → IsMemberPath pod path (stem_of (slug request.fields)) (links_to_container request.fields) member
      → member_refusal pod request seq path member content ≡ o
      → IsUnlessRefused o (IsMemberMade pod request path (origin_of asked seq stamp) bases member) told → Kind pod request asked seq stamp told
  unless_member_kind content member told (Some response) a is here named e h =
      (let plain : IsPlain response = subst AllPlain e (member_plain pod request seq path member content) in
      subst (Kind pod request asked seq stamp) (sym h) (refused response plain))
  unless_member_kind content member told None a is here named e h =
      read_member_kind content member h.read told a is here named (has_room pod seq 1 (member_room pod request seq path member content e)) h.means h.follows

  named_kind : (content : RowContent) (told : Reply) (name : Result (List ℕ) Response) → IsAsked pod request asked path (Content content) bases
      → request.method ≡ Post → is_row pod.rows path ≡ true
      → IsNamed pod path (stem_of (slug request.fields)) (links_to_container request.fields) name
      → IsNamedReply pod request path (origin_of asked seq stamp) bases content name told → Kind pod request asked seq stamp told
  named_kind content told (Err response) a is here named h =
      (let plain : IsPlain response = subst IsPlain (sym named.1) (record { status = refl; fields = refl }) in
      subst (Kind pod request asked seq stamp) (sym h) (refused response plain))
  named_kind content told (Ok member) a is here named h =
      unless_member_kind content member told (member_refusal pod request seq path member content) a is here named refl h

  posted_kind : (content : RowContent) (told : Reply) (exists : Bool) → IsAsked pod request asked path (Content content) bases → request.method ≡ Post
      → is_row pod.rows path ≡ exists
      → IsUnlessRefused (refuse_if (not exists) (refusal 404 (codes "missing"))) (IsPosted pod request path (origin_of asked seq stamp) bases content) told
      → Kind pod request asked seq stamp told
  posted_kind content told false a is here h =
      subst (Kind pod request asked seq stamp) (sym h) (refused (refusal 404 (codes "missing")) (record { status = refl; fields = refl }))
  posted_kind content told true a is here h = named_kind content told h.named a is here h.is h.follows

  pub post_kind : (content : RowContent) (told : Reply) → IsAsked pod request asked path (Content content) bases → request.method ≡ Post
      → IsPostReply pod request path (origin_of asked seq stamp) bases content told → Kind pod request asked seq stamp told
  post_kind content told a is h = posted_kind content told (is_row pod.rows path) a is refl h
