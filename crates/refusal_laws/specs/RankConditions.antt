-- The conditions under which a request that is granted is refused, from its place in the tree to the
-- size of its entry: for each, of which methods it is looked at, and when it holds.
use Rattle.std.specs.Prelude.{ℕ, Bool, true, false, not, if◌then◌else◌, List, length, Option, Some}
use Rattle.std.specs.Prelude.{None, Result, Ok, Err, codes}
use Rattle.conditional_req.specs.Conditions.{conditions}
use Rattle.conditional_req.specs.declared.precondition_verdict.Verdict.{Verdict}
use Rattle.conditional_req.specs.declared.precondition_verdict.Verdict.TheVariants as verdicts
use Rattle.patch_outcome.specs.Outcomes.{word_of}
use Rattle.patch_outcome.specs.declared.patch_refusals.PatchRefusal.{PatchRefusal}
use Rattle.patch_outcome.specs.declared.patch_refusals.PatchRefusal.TheVariants as patches
use Rattle.pod_base.specs.declared.method.Method.{Method}
use Rattle.pod_base.specs.declared.method.Method.TheVariants as methods
use Rattle.pod_base.specs.declared.request.Request.{Request}
use Rattle.pod_base.specs.declared.response.Response.{Response}
use Rattle.pod_command.specs.declared.basis.Basis.{Basis}
use Rattle.pod_command.specs.declared.edit.Edit.{Edit}
use Rattle.pod_command.specs.declared.entry.Entry.{Entry}
use Rattle.pod_command.specs.declared.row.Content.{Content}
use Rattle.pod_command.specs.declared.row.Row.{Row}
use Rattle.pod_edits.specs.Allowed.{triples_of}
use Rattle.pod_edits.specs.Edits.{change_edits, creation_edits}
use Rattle.pod_edits.specs.Refusals.{added_rows, breaks_guard, has_children, lacks_subject}
use Rattle.pod_edits.specs.Refusals.{meets_twin, states_containment}
use Rattle.pod_reply.specs.DeleteReplies.{delete_edits}
use Rattle.pod_reply.specs.EntrySize.{is_too_large, size_refusal}
use Rattle.pod_reply.specs.Obstacles.{condition_refusal, conflict, first_of, no_room, refuse_if}
use Rattle.pod_reply.specs.PatchReplies.{guard_refusal, is_bytes_row, new_row}
use Rattle.pod_reply.specs.PostReplies.{containment_refusal}
use Rattle.pod_reply.specs.PutReplies.{made_response, making_edits, row_of}
use Rattle.pod_reply.specs.ReadReplies.{read_reply}
use Rattle.pod_reply.specs.Replies.{Reply, entry_of, unchanged}
use Rattle.pod_reply.specs.declared.origin.Origin.{Origin}
use Rattle.pod_representations.specs.Offers.{chosen}
use Rattle.pod_representations.specs.Preconditions.{read_verdict}
use Rattle.pod_representations.specs.ReadResponses.{asked}
use Rattle.pod_representations.specs.Representations.{represented}
use Rattle.pod_representations.specs.declared.row_offers.Media.{Media}
use Rattle.pod_representations.specs.declared.representation.Shown.{Shown}
use Rattle.pod_responses.specs.Responses.{changed, created, not_modified, options, refusal}
use Rattle.pod_responses.specs.Responses.{unsatisfiable}
use Rattle.pod_rows.specs.Pod.{Pod, is_row, row_at}
use Rattle.range_req.specs.RangeSets as sets
use Rattle.rdf_graph.specs.declared.change.Change.{Change}
use Rattle.rdf_graph.specs.declared.triple.Triple.{Triple}
use Rattle.request_body.specs.Bodies.{Outcome}
use Rattle.request_body.specs.declared.body.RequestBody.{RequestBody}
use Rattle.request_body.specs.declared.body.RequestBody.TheVariants as bodies
use Rattle.request_fields.specs.Upgrades.{upgrade_key}

-- ---- what a request is judged by

-- What the method of a request has to find out: the name of a new member, what the body means under
-- that name, and what a patch does to the graph of its path.
pub record Found : Type 0 where
  pub named : Result (List ℕ) Response
  pub renamed : Outcome
  pub outcome : Result Change PatchRefusal

-- A request that is granted: its path, who makes it and at which number, the bases of its needs, what
-- its body means, and what is found out.
pub record Situation : Type 0 where
  pub pod : Pod
  pub request : Request
  pub path : List ℕ
  pub origin : Origin
  pub bases : List Basis
  pub body : RequestBody
  pub found : Found

abbrev pub row_in : Situation → Option Row
row_in s = row_at s.pod.rows s.path

abbrev pub is_there : Situation → Bool
is_there s = is_row s.pod.rows s.path

-- the content of the body; none where it is a patch or nothing
abbrev pub content_in : RequestBody → Option Content
content_in (bodies.Content content) = Some content
content_in bodies.Nothing = None
content_in (bodies.Patch patch) = None
content_in (bodies.Update named) = None

-- a refusal of what concerns new rows alone
abbrev pub of_new : Bool → Option Response → Option Response
of_new true refused = None
of_new false refused = refused

-- a refusal of the content, where there is one
abbrev pub of_content : Option Content → (Content → Option Response) → Option Response
of_content None refused = None
of_content (Some content) refused = refused content

-- a refusal of the member that the content makes, where it has a name
abbrev pub of_member : Result (List ℕ) Response → (List ℕ → Option Response) → Option Response
of_member (Err response) refused = None
of_member (Ok member) refused = refused member

-- a refusal of what the body means, where it is content
abbrev pub of_renamed : Outcome → (Content → Option Response) → Option Response
of_renamed (Err fault) refused = None
of_renamed (Ok body) refused = of_content (content_in body) refused

-- ---- the conditions, method by method

abbrev pub missing_refusal : Method → Situation → Option Response
missing_refusal methods.Get s = refuse_if (not (is_there s)) (refusal 404 (codes "missing"))
missing_refusal methods.Head s = refuse_if (not (is_there s)) (refusal 404 (codes "missing"))
missing_refusal methods.Post s = refuse_if (not (is_there s)) (refusal 404 (codes "missing"))
missing_refusal methods.Delete s = refuse_if (not (is_there s)) (refusal 404 (codes "missing"))
missing_refusal _ s = None

abbrev pub not_graph_refusal : Method → Situation → Option Response
not_graph_refusal methods.Patch s =
    refuse_if (is_bytes_row (row_in s)) (conflict (codes "not-graph"))
not_graph_refusal _ s = None

abbrev pub twin_of_new : Situation → Option Response
twin_of_new s =
    of_new (is_there s) (refuse_if (meets_twin s.pod.rows s.path) (conflict (codes "twin")))

abbrev pub twin_refusal : Method → Situation → Option Response
twin_refusal methods.Put s = twin_of_new s
twin_refusal methods.Patch s = twin_of_new s
twin_refusal _ s = None

abbrev pub subject_of_new : Situation → Option Response
subject_of_new s =
    of_new (is_there s) (refuse_if (lacks_subject s.pod.rows s.path) (conflict (codes "subject")))

abbrev pub subject_refusal : Method → Situation → Option Response
subject_refusal methods.Put s = subject_of_new s
subject_refusal methods.Patch s = subject_of_new s
subject_refusal _ s = None

abbrev pub nameless : Result (List ℕ) Response → Option Response
nameless (Err response) = Some response
nameless (Ok member) = None

abbrev pub no_name_refusal : Method → Situation → Option Response
no_name_refusal methods.Post s = nameless s.found.named
no_name_refusal _ s = None

abbrev pub not_empty_refusal : Method → Situation → Option Response
not_empty_refusal methods.Delete s =
    refuse_if (has_children s.pod.rows s.path) (conflict (codes "not-empty"))
not_empty_refusal _ s = None

-- how many rows a PUT or PATCH adds
abbrev pub rows_added : Situation → ℕ
rows_added s = if is_there s then 0 else added_rows s.pod.rows s.path

abbrev pub rows_refusal : Method → Situation → Option Response
rows_refusal methods.Put s = no_room s.pod s.origin.seq (rows_added s)
rows_refusal methods.Patch s = no_room s.pod s.origin.seq (rows_added s)
rows_refusal methods.Post s = no_room s.pod s.origin.seq 1
rows_refusal methods.Delete s = no_room s.pod s.origin.seq 0
rows_refusal _ s = None

-- An upgrade is answered before a representation is chosen.
abbrev pub refused_choice : Option (List ℕ) → Option Media → Option Response
refused_choice (Some key) choice = None
refused_choice None None = Some (refusal 406 (codes "accept"))
refused_choice None (Some media) = None

abbrev pub accept_of_row : Situation → Option Row → Option Response
accept_of_row s None = None
accept_of_row s (Some row) =
    refused_choice (upgrade_key s.request) (chosen row s.request.fields)

abbrev pub accept_refusal : Method → Situation → Option Response
accept_refusal methods.Get s = accept_of_row s (row_in s)
accept_refusal methods.Head s = accept_of_row s (row_in s)
accept_refusal _ s = None

-- what is shown; nothing for an upgrade
abbrev pub shown_choice : Situation → Row → Option (List ℕ) → Option Media → Option Shown
shown_choice s row (Some key) choice = None
shown_choice s row None None = None
shown_choice s row None (Some media) = Some (represented s.pod row media)

abbrev pub shown_of_row : Situation → Option Row → Option Shown
shown_of_row s None = None
shown_of_row s (Some row) =
    shown_choice s row (upgrade_key s.request) (chosen row s.request.fields)

abbrev pub judged : Shown → Verdict → Option Response
judged shown verdicts.Go = None
judged shown verdicts.NotModified = Some (not_modified shown.tag.0 shown.modified.0)
judged shown verdicts.Failed = Some (refusal 412 (codes "condition"))

abbrev pub judged_shown : Situation → Option Shown → Option Response
judged_shown s None = None
judged_shown s (Some shown) =
    judged shown (read_verdict (conditions s.request.fields) s.request.method shown)

abbrev pub precondition_refusal : Method → Situation → Option Response
precondition_refusal methods.Get s = judged_shown s (shown_of_row s (row_in s))
precondition_refusal methods.Head s = judged_shown s (shown_of_row s (row_in s))
precondition_refusal methods.Put s = condition_refusal s.pod s.request s.path
precondition_refusal methods.Patch s = condition_refusal s.pod s.request s.path
precondition_refusal methods.Post s = condition_refusal s.pod s.request s.path
precondition_refusal methods.Delete s = condition_refusal s.pod s.request s.path
precondition_refusal _ s = None

abbrev pub unsatisfied : ℕ → sets.Asked → Option Response
unsatisfied count sets.whole = None
unsatisfied count sets.unsatisfiable = Some (unsatisfiable count)
unsatisfied count (sets.parts list) = None

abbrev pub range_of_shown : Situation → Option Shown → Option Response
range_of_shown s None = None
range_of_shown s (Some shown) =
    unsatisfied (length shown.body) (asked shown s.request.method s.request.fields)

abbrev pub range_refusal : Method → Situation → Option Response
range_refusal methods.Get s = range_of_shown s (shown_of_row s (row_in s))
range_refusal methods.Head s = range_of_shown s (shown_of_row s (row_in s))
range_refusal _ s = None

-- the triples of the row that a PUT of this content makes
abbrev pub put_triples : Situation → Content → List Triple
put_triples s content = triples_of (row_of s.path content s.origin.stamp.moment)

abbrev pub containment_of_put : Situation → Content → Option Response
containment_of_put s content =
    refuse_if (states_containment s.path (put_triples s content)) (conflict (codes "contains"))

abbrev pub containment_of_patch : Result Change PatchRefusal → Option Response
containment_of_patch (Err patches.Contains) = Some (conflict (word_of patches.Contains))
containment_of_patch _ = None

-- The graph of a member is judged with its first candidate, and with the name that is free.
abbrev pub containment_of_member : Situation → List ℕ → Option Response
containment_of_member s member =
    first_of (of_content (content_in s.body) (containment_refusal member))
    (of_renamed s.found.renamed (containment_refusal member))

abbrev pub contains_refusal : Method → Situation → Option Response
contains_refusal methods.Put s = of_content (content_in s.body) (containment_of_put s)
contains_refusal methods.Post s = of_member s.found.named (containment_of_member s)
contains_refusal methods.Patch s = containment_of_patch s.found.outcome
contains_refusal _ s = None

abbrev pub failure_of_patch : Result Change PatchRefusal → Option Response
failure_of_patch (Ok change) = None
failure_of_patch (Err patches.Contains) = None
failure_of_patch (Err failure) = Some (conflict (word_of failure))

abbrev pub patch_fails_refusal : Method → Situation → Option Response
patch_fails_refusal methods.Patch s = failure_of_patch s.found.outcome
patch_fails_refusal _ s = None

abbrev pub owner_of_put : Situation → Content → Option Response
owner_of_put s content =
    refuse_if (breaks_guard s.pod s.path (put_triples s content)) (conflict (codes "owner"))

abbrev pub owner_of_patch : Situation → Result Change PatchRefusal → Option Response
owner_of_patch s (Err failure) = None
owner_of_patch s (Ok change) = guard_refusal s.pod s.path change

abbrev pub owner_refusal : Method → Situation → Option Response
owner_refusal methods.Put s = of_content (content_in s.body) (owner_of_put s)
owner_refusal methods.Patch s = owner_of_patch s s.found.outcome
owner_refusal _ s = None

-- ---- the success of each method

-- a change with these edits, and its response
abbrev pub made_with : Situation → Response → List Edit → Reply
made_with s response edits = record {
  response = response;
  entry = Some (entry_of s.origin s.request.method s.path edits s.bases);
}

-- what no request comes to
abbrev pub nothing_made : Reply
nothing_made = unchanged size_refusal

abbrev pub put_made : Situation → Option Content → Reply
put_made s None = nothing_made
put_made s (Some content) = made_with s (made_response s.pod s.path (is_there s))
    (making_edits s.pod (row_of s.path content s.origin.stamp.moment) (is_there s))

abbrev pub member_made : Situation → List ℕ → Option Content → Reply
member_made s member None = nothing_made
member_made s member (Some content) = made_with s (created s.pod.base s.path member)
    (creation_edits s.pod.rows (row_of member content s.origin.stamp.moment))

abbrev pub renamed_made : Situation → List ℕ → Outcome → Reply
renamed_made s member (Err fault) = nothing_made
renamed_made s member (Ok body) = member_made s member (content_in body)

abbrev pub post_made : Situation → Result (List ℕ) Response → Reply
post_made s (Err response) = nothing_made
post_made s (Ok member) = renamed_made s member s.found.renamed

-- A row is changed, a new one is made.
abbrev pub patched_edits : Situation → Change → Bool → List Edit
patched_edits s change true = change_edits s.path change s.origin.stamp.moment
patched_edits s change false =
    making_edits s.pod (new_row s.path change s.origin.stamp.moment) false

abbrev pub patch_made : Situation → Result Change PatchRefusal → Reply
patch_made s (Err failure) = nothing_made
patch_made s (Ok change) = made_with s (made_response s.pod s.path (is_there s))
    (patched_edits s change (is_there s))

-- The reply where no condition of the table holds.
abbrev pub success_of : Method → Situation → Reply
success_of methods.Get s = unchanged (read_reply s.pod s.request s.path s.origin.agent)
success_of methods.Head s = unchanged (read_reply s.pod s.request s.path s.origin.agent)
success_of methods.Options s = unchanged (options s.path)
success_of methods.Put s = put_made s (content_in s.body)
success_of methods.Post s = post_made s s.found.named
success_of methods.Patch s = patch_made s s.found.outcome
success_of methods.Delete s =
    made_with s changed (delete_edits s.pod s.path s.origin.stamp.moment)
success_of methods.Other s = nothing_made

-- ---- size

abbrev pub oversized : Option Entry → Option Response
oversized None = None
oversized (Some entry) = refuse_if (is_too_large entry) size_refusal

-- the graph of a member under its own name, or else the entry
abbrev pub size_of_renamed : Outcome → Option Entry → Option Response
size_of_renamed (Err fault) entry = Some size_refusal
size_of_renamed (Ok body) entry = oversized entry

abbrev pub size_refused : Method → Situation → Option Response
size_refused methods.Post s = size_of_renamed s.found.renamed (success_of methods.Post s).entry
size_refused method s = oversized (success_of method s).entry
