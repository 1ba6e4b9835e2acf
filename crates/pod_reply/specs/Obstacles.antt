-- The refusals of a change: by its place in the tree, by the number of rows, by the preconditions,
-- then by what its new triples state.
use Rattle.std.specs.Prelude.{ℕ, Bool, true, false, ◌||◌, List, Option, Some, None, codes}
use Rattle.conditional_req.specs.Conditions.{conditions}
use Rattle.conditional_req.specs.declared.precondition_verdict.Verdict.{Verdict}
use Rattle.conditional_req.specs.declared.precondition_verdict.Verdict.TheVariants.{Go}
use Rattle.pod_base.specs.declared.request.Request.{Request}
use Rattle.pod_base.specs.declared.response.Response.{Response}
use Rattle.pod_edits.specs.Refusals.{meets_twin, lacks_subject, added_rows, exceeds_rows}
use Rattle.pod_edits.specs.Refusals.{lacks_number, breaks_guard, states_containment}
use Rattle.pod_representations.specs.Preconditions.{change_verdict}
use Rattle.pod_responses.specs.Responses.{refusal}
use Rattle.pod_rows.specs.Pod.{Pod, row_at}
use Rattle.rdf_graph.specs.declared.triple.Triple.{Triple}

abbrev pub conflict : List ℕ → Response
conflict word = refusal 409 word

-- the first of two refusals
abbrev pub first_of : Option Response → Option Response → Option Response
first_of (Some response) later = Some response
first_of None later = later

abbrev pub refuse_if : Bool → Response → Option Response
refuse_if true response = Some response
refuse_if false response = None

-- No change is taken at a number of 2^63 or more, nor one with which there would be too many rows.
abbrev pub no_room : Pod → ℕ → ℕ → Option Response
no_room pod seq added =
    refuse_if (exceeds_rows pod.rows added || lacks_number seq) (refusal 507 (codes "rows"))

-- A path that is no row, which a PUT or PATCH would make one.
unfoldable pub new_path_refusal : Pod → ℕ → List ℕ → Option Response
new_path_refusal pod seq path =
    first_of (refuse_if (meets_twin pod.rows path) (conflict (codes "twin")))
    (first_of (refuse_if (lacks_subject pod.rows path) (conflict (codes "subject")))
    (no_room pod seq (added_rows pod.rows path)))

-- the preconditions of a change
abbrev pub failed : Verdict → Option Response
failed Go = None
failed _ = Some (refusal 412 (codes "condition"))

unfoldable pub condition_refusal : Pod → Request → List ℕ → Option Response
condition_refusal pod request path = failed
    (change_verdict pod (row_at pod.rows path) (conditions request.fields) request.method)

-- The new triples of a path: a container doesn't state what it contains, and the list of the root
-- leaves its owner in control.
unfoldable pub content_refusal : Pod → List ℕ → List Triple → Option Response
content_refusal pod path triples =
    first_of (refuse_if (states_containment path triples) (conflict (codes "contains")))
    (refuse_if (breaks_guard pod path triples) (conflict (codes "owner")))
