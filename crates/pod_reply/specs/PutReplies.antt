-- The reply to a PUT that is granted: the row at the path has the content that was sent.
use Rattle.std.specs.Prelude.{◌≡◌, ℕ, Bool, true, false, if◌then◌else◌, List, Option, Some, None}
use Rattle.pod_base.specs.declared.moment.Moment.{Moment}
use Rattle.pod_base.specs.declared.request.Request.{Request}
use Rattle.pod_base.specs.declared.response.Response.{Response}
use Rattle.pod_command.specs.declared.basis.Basis.{Basis}
use Rattle.pod_command.specs.declared.edit.Edit.{Edit}
use Rattle.pod_command.specs.declared.row.Content.{Content}
use Rattle.pod_command.specs.declared.row.Row.{Row}
use Rattle.pod_edits.specs.Allowed.{triples_of}
use Rattle.pod_edits.specs.Edits.{creation_edits, put_edits}
use Rattle.pod_edits.specs.Kinds.{kind_of}
use Rattle.pod_path.specs.Hierarchy.{is_auxiliary}
use Rattle.pod_responses.specs.Responses.{created, changed}
use Rattle.pod_rows.specs.Pod.{Pod, is_row}
use Rattle.rdf_graph.specs.declared.triple.Triple.{Triple}
use Rattle.pod_reply.specs.Obstacles.{first_of, no_room, new_path_refusal, condition_refusal}
use Rattle.pod_reply.specs.Obstacles.{content_refusal}
use Rattle.pod_reply.specs.Replies.{Reply, unchanged, entry_of, change_reply}
use Rattle.pod_reply.specs.declared.origin.Origin.{Origin}

-- the row at a path with this content
abbrev pub row_of : List ℕ → Content → Moment → Row
row_of path content modified = record {
  path = path;
  kind = kind_of path content;
  content = content;
  modified = modified;
}

-- the first refusal of a PUT or a PATCH by the place of its path, which is a row or isn't
abbrev pub place_refusal : Pod → ℕ → List ℕ → Bool → Option Response
place_refusal pod seq path true = no_room pod seq 0
place_refusal pod seq path false = new_path_refusal pod seq path

-- The edits that make a row, or replace the one at its path.
abbrev pub making_edits : Pod → Row → Bool → List Edit
making_edits pod row true = put_edits row
making_edits pod row false =
    if is_auxiliary row.path then put_edits row else creation_edits pod.rows row

-- 204 for a row that existed, 201 for a new one
abbrev pub made_response : Pod → List ℕ → Bool → Response
made_response pod path true = changed
made_response pod path false = created pod.base path path

abbrev pub make_reply : Pod → Request → List ℕ → Origin → List Basis → Row → Bool → Reply
make_reply pod request path origin bases row exists = change_reply (made_response pod path exists)
    (entry_of origin request.method path (making_edits pod row exists) bases)

abbrev pub unless_refused : Option Response → Reply → Reply
unless_refused (Some response) reply = unchanged response
unless_refused None reply = reply

-- where more than one reply meets what a success must
abbrev pub IsUnlessRefused : Option Response → (Reply → Type 0) → Reply → Type 0
IsUnlessRefused (Some response) IsSuccess reply = reply ≡ unchanged response
IsUnlessRefused None IsSuccess reply = IsSuccess reply

-- the first refusal of a PUT of a path with these triples
abbrev pub put_refusal : Pod → Request → ℕ → List ℕ → List Triple → Option Response
put_refusal pod request seq path triples =
    first_of (place_refusal pod seq path (is_row pod.rows path))
    (first_of (condition_refusal pod request path) (content_refusal pod path triples))

-- The reply to a granted PUT of a path with this content.
abbrev pub put_row_reply : Pod → Request → List ℕ → Origin → List Basis → Row → Reply
put_row_reply pod request path origin bases row = unless_refused
    (put_refusal pod request origin.seq path (triples_of row))
    (make_reply pod request path origin bases row (is_row pod.rows path))

unfoldable pub put_reply : Pod → Request → List ℕ → Origin → List Basis → Content → Reply
put_reply pod request path origin bases content =
    put_row_reply pod request path origin bases (row_of path content origin.stamp.moment)
