-- Each refusal is a plain response: its status is one of refusals, and its fields are lines.
use Rattle.std.proofs.Common.{◌≡◌, ℕ, Bool, true, false, not, cond, ◌||◌, List, [], ◌∷◌, Some, None, Result, Ok, Err, refl, codes}
use Rattle.std.specs.Prelude.{bytes_eq}
use Rattle.http_out.specs.Text.{AreFieldLines}
use Rattle.conditional_req.specs.Conditions.{conditions}
use Rattle.conditional_req.specs.declared.precondition_verdict.Verdict.{Verdict}
use Rattle.conditional_req.specs.declared.precondition_verdict.Verdict.TheVariants.{Go, NotModified, Failed}
use Rattle.pod_base.specs.declared.agent.Agent.{Agent}
use Rattle.pod_base.specs.declared.agent.Agent.TheVariants.{Public, Known}
use Rattle.pod_base.specs.declared.method.Method.{Method}
use Rattle.pod_base.specs.declared.method.Method.TheVariants.{Get, Head, Options, Post, Put, Patch, Delete, Other}
use Rattle.pod_base.specs.declared.request.Request.{Request}
use Rattle.pod_base.specs.declared.response.Response.{Response}
use Rattle.pod_edits.specs.Refusals.{added_rows, breaks_guard, exceeds_rows, has_children, lacks_number, lacks_subject, meets_twin, states_containment}
use Rattle.pod_path.specs.Norm.{norm}
use Rattle.pod_path.specs.declared.fault.PathFault.{PathFault}
use Rattle.pod_path.specs.declared.fault.PathFault.TheVariants.{BadEscape, NotNormal, Reserved, TooLong, TooDeep, NoMemory}
use Rattle.pod_path.proofs.NormalPaths.{norm_again}
use Rattle.pod_representations.specs.Preconditions.{change_verdict}
use Rattle.pod_responses.specs.Allow.{allow_text, is_allowed}
use Rattle.pod_responses.specs.Links.{field}
use Rattle.pod_responses.specs.Responses.{allow, not_allowed, refusal, taken_types}
use Rattle.pod_rows.specs.Pod.{Pod, is_row, row_at}
use Rattle.pod_rows.specs.View.{triples_in}
use Rattle.pod_command.specs.declared.row.Content.{Content as RowContent}
use Rattle.pod_reply.specs.AccessRank.{access_refusal}
use Rattle.pod_reply.specs.DeleteReplies.{delete_refusal, removal_refusal}
use Rattle.pod_reply.specs.Obstacles.{condition_refusal, conflict, content_refusal, failed, first_of, new_path_refusal, no_room, refuse_if}
use Rattle.pod_reply.specs.PatchReplies.{is_bytes_row, patch_refusal}
use Rattle.pod_reply.specs.PostReplies.{member_refusal}
use Rattle.pod_reply.specs.PutReplies.{place_refusal, put_refusal}
use Rattle.rdf_graph.specs.declared.triple.Triple.{Triple}
use Rattle.request_body.specs.Refusals.{refusal_of}
use Rattle.request_body.specs.declared.fault.BodyFault.{BodyFault}
use Rattle.request_body.specs.declared.fault.BodyFault.TheVariants.{NoType, UnsupportedType, Syntax, Json, Rule, GraphSize}
use Rattle.request_target.specs.Admission.{admitted, admitted_to, method_refusal, token_refusal, unless, untaken}
use Rattle.request_target.specs.Targets.{origin_form, path_refusal, resource_of, server_for, target_of}
use Rattle.request_target.specs.declared.target.Target.{Target}
use Rattle.request_target.specs.declared.target.Target.TheVariants.{Server, Resource}
use Rattle.token_table.specs.Credentials.{AskedAgent, known, public, refused}
use Rattle.reply_laws.proofs.Fields.{allowed_stay, first, taken_are_lines}
use Rattle.reply_laws.proofs.ReplyKinds.{AllPlain, IsPlain, none_first, none_if, plain_first, plain_if}

-- ---- bodies and access

pub body_plain : (method : Method) (path : List ℕ) (fault : BodyFault) → IsPlain (refusal_of method path fault)
body_plain method path NoType = record { status = refl; fields = refl }
body_plain method path UnsupportedType =
    record { status = refl; fields = first (codes "Content-Type") (codes "text/plain") (taken_types method path ∷ []) refl refl (taken_are_lines method path) }
body_plain method path (Syntax at) = record { status = refl; fields = refl }
body_plain method path Json = record { status = refl; fields = refl }
body_plain method path (Rule rule) = record { status = refl; fields = refl }
body_plain method path GraphSize = record { status = refl; fields = refl }

pub access_plain : (agent : Agent) → IsPlain (access_refusal agent)
access_plain Public = record { status = refl; fields = refl }
access_plain (Known agent) = record { status = refl; fields = refl }

-- ---- what is admitted

-- a normal path that takes the method, or the server, which takes OPTIONS; else a plain refusal
abbrev pub Admits : Method → Result Target Response → Type 0
Admits method (Err response) = IsPlain response
Admits method (Ok Server) = method ≡ Options
Admits method (Ok (Resource path)) = (norm path ≡ Ok path) × (is_allowed path method ≡ true)

abbrev Targets : Method → Result Target Response → Type 0
Targets method (Err response) = IsPlain response
Targets method (Ok Server) = method ≡ Options
Targets method (Ok (Resource path)) = norm path ≡ Ok path

path_plain : (fault : PathFault) → IsPlain (path_refusal fault)
path_plain TooLong = record { status = refl; fields = refl }
path_plain TooDeep = record { status = refl; fields = refl }
path_plain BadEscape = record { status = refl; fields = refl }
path_plain NotNormal = record { status = refl; fields = refl }
path_plain Reserved = record { status = refl; fields = refl }
path_plain NoMemory = record { status = refl; fields = refl }

resource_targets : (method : Method) (text : List ℕ) (r : Result (List ℕ) PathFault) → norm text ≡ r → Targets method (resource_of r)
resource_targets method text (Ok path) e = norm_again text path e
resource_targets method text (Err fault) e = path_plain fault

server_targets : (method : Method) → Targets method (server_for method)
server_targets Get = record { status = refl; fields = refl }
server_targets Head = record { status = refl; fields = refl }
server_targets Options = refl
server_targets Post = record { status = refl; fields = refl }
server_targets Put = record { status = refl; fields = refl }
server_targets Patch = record { status = refl; fields = refl }
server_targets Delete = record { status = refl; fields = refl }
server_targets Other = record { status = refl; fields = refl }

target_is : (base : List ℕ) (method : Method) (target : List ℕ) → Targets method (target_of base method target)
target_is base method target = by_test (bytes_eq target (codes "*"))
  where
    by_test : (b : Bool) → Targets method (cond b (server_for method) (resource_of (norm (origin_form base target))))
    by_test true = server_targets method
    by_test false = resource_targets method (origin_form base target) (norm (origin_form base target)) refl

allowed_lines : (path : List ℕ) → AreFieldLines (field (codes "Content-Type") (codes "text/plain") ∷ allow (allow_text path) ∷ [])
allowed_lines path = first (codes "Content-Type") (codes "text/plain") (allow (allow_text path) ∷ []) refl refl (first (codes "Allow") (allow_text path) [] refl (allowed_stay path) refl)

untaken_admits : (method : Method) (target : Target) → Targets method (Ok target) → Admits method (unless target None (untaken target method))
untaken_admits method Server h = h
untaken_admits method (Resource path) h = by_test (is_allowed path method) refl
  where
    by_test : (b : Bool) → is_allowed path method ≡ b → Admits method (unless (Resource path) None (cond b None (Some (not_allowed path))))
    by_test true e = (h, e)
    by_test false e = record { status = refl; fields = allowed_lines path }

method_admits : (method : Method) (target : Target) → Targets method (Ok target) → Admits method (unless target None (method_refusal target method))
method_admits Get target h = untaken_admits Get target h
method_admits Head target h = untaken_admits Head target h
method_admits Options target h = untaken_admits Options target h
method_admits Post target h = untaken_admits Post target h
method_admits Put target h = untaken_admits Put target h
method_admits Patch target h = untaken_admits Patch target h
method_admits Delete target h = untaken_admits Delete target h
method_admits Other target h = record { status = refl; fields = refl }

asked_admits : (asked : AskedAgent) (method : Method) (target : Target) → Targets method (Ok target)
    → Admits method (unless target (token_refusal asked) (method_refusal target method))
asked_admits public method target h = method_admits method target h
asked_admits (known agent) method target h = method_admits method target h
asked_admits refused method target h = record { status = refl; fields = refl }

admits : (asked : AskedAgent) (method : Method) (r : Result Target Response) → Targets method r → Admits method (admitted_to asked method r)
admits asked method (Ok target) h = asked_admits asked method target h
admits asked method (Err response) h = h

pub admitted_is : (base : List ℕ) (request : Request) (asked : AskedAgent) → Admits request.method (admitted base request asked)
admitted_is base request asked = admits asked request.method (target_of base request.method request.target) (target_is base request.method request.target)

-- ---- obstacles

pub word_plain : (word : List ℕ) → IsPlain (conflict word)
word_plain word = record { status = refl; fields = refl }

room_plain : (pod : Pod) (seq added : ℕ) → AllPlain (no_room pod seq added)
room_plain pod seq added = plain_if (exceeds_rows pod.rows added || lacks_number seq) (refusal 507 (codes "rows")) (record { status = refl; fields = refl })

new_path_plain : (pod : Pod) (seq : ℕ) (path : List ℕ) → AllPlain (new_path_refusal pod seq path)
unfolding new_path_refusal
new_path_plain pod seq path =
    plain_first (refuse_if (meets_twin pod.rows path) (conflict (codes "twin"))) _ (plain_if (meets_twin pod.rows path) (conflict (codes "twin")) (word_plain (codes "twin")))
    (plain_first (refuse_if (lacks_subject pod.rows path) (conflict (codes "subject"))) _ (plain_if (lacks_subject pod.rows path) (conflict (codes "subject")) (word_plain (codes "subject")))
    (room_plain pod seq (added_rows pod.rows path)))

place_plain : (pod : Pod) (seq : ℕ) (path : List ℕ) (exists : Bool) → AllPlain (place_refusal pod seq path exists)
place_plain pod seq path true = room_plain pod seq 0
place_plain pod seq path false = new_path_plain pod seq path

failed_plain : (verdict : Verdict) → AllPlain (failed verdict)
failed_plain Go = tt
failed_plain NotModified = record { status = refl; fields = refl }
failed_plain Failed = record { status = refl; fields = refl }

condition_plain : (pod : Pod) (request : Request) (path : List ℕ) → AllPlain (condition_refusal pod request path)
unfolding condition_refusal
condition_plain pod request path = failed_plain (change_verdict pod (row_at pod.rows path) (conditions request.fields) request.method)

content_plain : (pod : Pod) (path : List ℕ) (triples : List Triple) → AllPlain (content_refusal pod path triples)
unfolding content_refusal
content_plain pod path triples =
    plain_first (refuse_if (states_containment path triples) (conflict (codes "contains"))) _ (plain_if (states_containment path triples) (conflict (codes "contains")) (word_plain (codes "contains")))
    (plain_if (breaks_guard pod path triples) (conflict (codes "owner")) (word_plain (codes "owner")))

pub put_plain : (pod : Pod) (request : Request) (seq : ℕ) (path : List ℕ) (triples : List Triple) → AllPlain (put_refusal pod request seq path triples)
put_plain pod request seq path triples =
    plain_first (place_refusal pod seq path (is_row pod.rows path)) _ (place_plain pod seq path (is_row pod.rows path))
    (plain_first (condition_refusal pod request path) (content_refusal pod path triples) (condition_plain pod request path) (content_plain pod path triples))

pub patch_plain : (pod : Pod) (request : Request) (seq : ℕ) (path : List ℕ) → AllPlain (patch_refusal pod request seq path)
unfolding patch_refusal
patch_plain pod request seq path =
    plain_first (refuse_if (is_bytes_row (row_at pod.rows path)) (conflict (codes "not-graph"))) _
    (plain_if (is_bytes_row (row_at pod.rows path)) (conflict (codes "not-graph")) (word_plain (codes "not-graph")))
    (plain_first (place_refusal pod seq path (is_row pod.rows path)) (condition_refusal pod request path) (place_plain pod seq path (is_row pod.rows path)) (condition_plain pod request path))

pub delete_plain : (pod : Pod) (request : Request) (seq : ℕ) (path : List ℕ) → AllPlain (delete_refusal pod request seq path)
delete_plain pod request seq path =
    plain_first (refuse_if (not (is_row pod.rows path)) (refusal 404 (codes "missing"))) (removal_refusal pod request seq path)
    (plain_if (not (is_row pod.rows path)) (refusal 404 (codes "missing")) (record { status = refl; fields = refl }))
    (plain_first (refuse_if (has_children pod.rows path) (conflict (codes "not-empty"))) _ (plain_if (has_children pod.rows path) (conflict (codes "not-empty")) (word_plain (codes "not-empty")))
    (plain_first (no_room pod seq 0) (condition_refusal pod request path) (room_plain pod seq 0) (condition_plain pod request path)))

pub member_plain : (pod : Pod) (request : Request) (seq : ℕ) (path member : List ℕ) (content : RowContent) → AllPlain (member_refusal pod request seq path member content)
unfolding member_refusal
member_plain pod request seq path member content =
    plain_first (no_room pod seq 1) _ (room_plain pod seq 1)
    (plain_first (condition_refusal pod request path) _ (condition_plain pod request path)
    (plain_if (states_containment member (triples_in content)) (conflict (codes "contains")) (word_plain (codes "contains"))))

-- ---- what no refusal says

pub record PutIsFree (pod : Pod) (seq : ℕ) (path : List ℕ) (triples : List Triple) : Type 0 where
  pub place : place_refusal pod seq path (is_row pod.rows path) ≡ None
  pub containment : states_containment path triples ≡ false
  pub guard : breaks_guard pod path triples ≡ false

content_free : (pod : Pod) (path : List ℕ) (triples : List Triple) → content_refusal pod path triples ≡ None → (states_containment path triples ≡ false) × (breaks_guard pod path triples ≡ false)
unfolding content_refusal
content_free pod path triples e =
    let parts = none_first (refuse_if (states_containment path triples) (conflict (codes "contains"))) (refuse_if (breaks_guard pod path triples) (conflict (codes "owner"))) e in
    (none_if (states_containment path triples) _ parts.0, none_if (breaks_guard pod path triples) _ parts.1)

pub put_free : (pod : Pod) (request : Request) (seq : ℕ) (path : List ℕ) (triples : List Triple) → put_refusal pod request seq path triples ≡ None → PutIsFree pod seq path triples
put_free pod request seq path triples e =
    let outer = none_first (place_refusal pod seq path (is_row pod.rows path)) (first_of (condition_refusal pod request path) (content_refusal pod path triples)) e in
    let inner = none_first (condition_refusal pod request path) (content_refusal pod path triples) outer.1 in
    let content = content_free pod path triples inner.1 in
    record { place = outer.0; containment = content.0; guard = content.1 }

pub record PatchIsFree (pod : Pod) (seq : ℕ) (path : List ℕ) : Type 0 where
  pub graph : is_bytes_row (row_at pod.rows path) ≡ false
  pub place : place_refusal pod seq path (is_row pod.rows path) ≡ None

pub patch_free : (pod : Pod) (request : Request) (seq : ℕ) (path : List ℕ) → patch_refusal pod request seq path ≡ None → PatchIsFree pod seq path
unfolding patch_refusal
patch_free pod request seq path e =
    let outer = none_first (refuse_if (is_bytes_row (row_at pod.rows path)) (conflict (codes "not-graph"))) (first_of (place_refusal pod seq path (is_row pod.rows path)) (condition_refusal pod request path)) e in
    let inner = none_first (place_refusal pod seq path (is_row pod.rows path)) (condition_refusal pod request path) outer.1 in
    record { graph = none_if (is_bytes_row (row_at pod.rows path)) _ outer.0; place = inner.0 }

pub record DeleteIsFree (pod : Pod) (seq : ℕ) (path : List ℕ) : Type 0 where
  pub present : is_row pod.rows path ≡ true
  pub children : has_children pod.rows path ≡ false
  pub room : no_room pod seq 0 ≡ None

not_false : (b : Bool) → not b ≡ false → b ≡ true
not_false true e = refl
not_false false e = absurd cc

pub delete_free : (pod : Pod) (request : Request) (seq : ℕ) (path : List ℕ) → delete_refusal pod request seq path ≡ None → DeleteIsFree pod seq path
delete_free pod request seq path e =
    let outer = none_first (refuse_if (not (is_row pod.rows path)) (refusal 404 (codes "missing"))) (removal_refusal pod request seq path) e in
    let middle = none_first (refuse_if (has_children pod.rows path) (conflict (codes "not-empty"))) (first_of (no_room pod seq 0) (condition_refusal pod request path)) outer.1 in
    let inner = none_first (no_room pod seq 0) (condition_refusal pod request path) middle.1 in
    record {
      present = not_false (is_row pod.rows path) (none_if (not (is_row pod.rows path)) _ outer.0);
      children = none_if (has_children pod.rows path) _ middle.0;
      room = inner.0;
    }

pub member_room : (pod : Pod) (request : Request) (seq : ℕ) (path member : List ℕ) (content : RowContent) → member_refusal pod request seq path member content ≡ None → no_room pod seq 1 ≡ None
unfolding member_refusal
member_room pod request seq path member content e = (none_first (no_room pod seq 1) _ e).0
