-- The reply to a PATCH that is granted: the graph of the row, or an empty one, is changed.
use Rattle.std.specs.Prelude.{◌≡◌, ℕ, Bool, true, false, List, [], Option, Some, None, codes}
use Rattle.std.specs.Prelude.{Result, Ok, Err}
use Rattle.pod_base.specs.declared.moment.Moment.{Moment}
use Rattle.pod_base.specs.declared.request.Request.{Request}
use Rattle.pod_base.specs.declared.response.Response.{Response}
use Rattle.pod_command.specs.declared.basis.Basis.{Basis}
use Rattle.pod_command.specs.declared.row.Content.TheVariants as contents
use Rattle.pod_command.specs.declared.row.Row.{Row}
use Rattle.patch_outcome.specs.Outcomes.{HasGraphs, IsOutcome, word_of}
use Rattle.patch_outcome.specs.Updates.{IsUpdateOutcome}
use Rattle.patch_outcome.specs.declared.patch_refusals.PatchRefusal.{PatchRefusal}
use Rattle.pod_edits.specs.Allowed.{triples_of}
use Rattle.pod_edits.specs.Edits.{change_edits}
use Rattle.pod_edits.specs.Refusals.{breaks_guard, is_bytes}
use Rattle.pod_path.specs.Hierarchy.{is_container}
use Rattle.pod_responses.specs.Responses.{changed}
use Rattle.pod_rows.specs.GraphSets.{changed_graph}
use Rattle.pod_rows.specs.Pod.{Pod, row_at, is_row}
use Rattle.graph_patch.specs.Patch.{IsBound}
use Rattle.rdf_graph.specs.declared.change.Change.{Change}
use Rattle.rdf_graph.specs.declared.triple.Triple.{Triple}
use Rattle.request_body.specs.declared.body.RequestBody.{RequestBody}
use Rattle.request_body.specs.declared.body.RequestBody.TheVariants.{Patch, Update}
use Rattle.pod_reply.specs.Obstacles.{first_of, refuse_if, conflict, condition_refusal}
use Rattle.pod_reply.specs.PutReplies.{place_refusal, row_of, make_reply}
use Rattle.pod_reply.specs.PutReplies.{unless_refused, IsUnlessRefused}
use Rattle.pod_reply.specs.Replies.{Reply, unchanged, entry_of, change_reply}
use Rattle.pod_reply.specs.declared.origin.Origin.{Origin}

-- the graph that is patched
abbrev pub patched_triples : Option Row → List Triple
patched_triples None = []
patched_triples (Some row) = triples_of row

-- bytes aren't patched
abbrev pub is_bytes_row : Option Row → Bool
is_bytes_row None = false
is_bytes_row (Some row) = is_bytes row.kind

-- the first refusal of a PATCH of a path before its patch is applied
unfoldable pub patch_refusal : Pod → Request → ℕ → List ℕ → Option Response
patch_refusal pod request seq path =
    first_of (refuse_if (is_bytes_row (row_at pod.rows path)) (conflict (codes "not-graph")))
    (first_of (place_refusal pod seq path (is_row pod.rows path))
    (condition_refusal pod request path))

-- What the body does to the graph of a path.
abbrev pub IsBodyOutcome : RequestBody → List ℕ → List Triple → Result Change PatchRefusal → Type 0
IsBodyOutcome (Patch patch) path graph outcome =
    IsOutcome (is_container path) graph patch outcome
IsBodyOutcome (Update named) path graph outcome =
    IsUpdateOutcome (is_container path) graph named.items outcome
IsBodyOutcome other path graph outcome = ⊥

abbrev pub triples_after : List Triple → Change → List Triple
triples_after graph change = changed_graph graph change.removed change.added

-- the row that a change makes where there is none
abbrev pub new_row : List ℕ → Change → Moment → Row
new_row path change modified = row_of path (contents.Graph (triples_after [] change)) modified

-- the graph after a change takes control from the owner
abbrev pub guard_refusal : Pod → List ℕ → Change → Option Response
guard_refusal pod path change = refuse_if (breaks_guard pod path
    (triples_after (patched_triples (row_at pod.rows path)) change)) (conflict (codes "owner"))

-- A PATCH has a patch or an update.
abbrev pub IsPatchBody : RequestBody → Type 0
IsPatchBody (Patch patch) = IsBound patch
IsPatchBody (Update named) = Unit {0}
IsPatchBody other = ⊥

module _ (pod : Pod) (request : Request) (path : List ℕ) (origin : Origin) (bases : List Basis) where
  -- a row is changed, a new one is made
  abbrev pub changing_reply : Change → Bool → Reply
  changing_reply change true = change_reply changed
      (entry_of origin request.method path (change_edits path change origin.stamp.moment) bases)
  changing_reply change false =
      make_reply pod request path origin bases (new_row path change origin.stamp.moment) false

  abbrev pub outcome_reply : Result Change PatchRefusal → Reply
  outcome_reply (Err refusal) = unchanged (conflict (word_of refusal))
  outcome_reply (Ok change) =
      unless_refused (guard_refusal pod path change) (changing_reply change (is_row pod.rows path))

  -- the reply where no refusal holds
  pub record IsApplied (body : RequestBody) (reply : Reply) : Type 0 where
    pub outcome : Result Change PatchRefusal
    pub is : IsBodyOutcome body path (patched_triples (row_at pod.rows path)) outcome
    pub graphs : HasGraphs outcome
    pub follows : reply ≡ outcome_reply outcome

  -- The reply to a granted PATCH of a path with this body.
  abbrev pub IsPatchReply : RequestBody → Reply → Type 0
  IsPatchReply body reply =
      IsUnlessRefused (patch_refusal pod request origin.seq path) (IsApplied body) reply
