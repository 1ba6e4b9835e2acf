-- The reply to a DELETE that is granted: the row is removed, with its access list and its
-- description.
use Rattle.std.specs.Prelude.{ℕ, not, if◌then◌else◌, List, Option, codes}
use Rattle.pod_base.specs.declared.moment.Moment.{Moment}
use Rattle.pod_base.specs.declared.request.Request.{Request}
use Rattle.pod_base.specs.declared.response.Response.{Response}
use Rattle.pod_command.specs.declared.basis.Basis.{Basis}
use Rattle.pod_command.specs.declared.edit.Edit.{Edit}
use Rattle.pod_edits.specs.Edits.{deletion_edits, removal_edits}
use Rattle.pod_edits.specs.Refusals.{has_children}
use Rattle.pod_path.specs.Hierarchy.{is_auxiliary}
use Rattle.pod_responses.specs.Responses.{refusal, changed}
use Rattle.pod_rows.specs.Pod.{Pod, is_row}
use Rattle.pod_reply.specs.Obstacles.{first_of, refuse_if, conflict, no_room, condition_refusal}
use Rattle.pod_reply.specs.PutReplies.{unless_refused}
use Rattle.pod_reply.specs.Replies.{Reply, entry_of, change_reply}
use Rattle.pod_reply.specs.declared.origin.Origin.{Origin}

abbrev pub delete_edits : Pod → List ℕ → Moment → List Edit
delete_edits pod path modified = if is_auxiliary path then removal_edits path
    else deletion_edits pod.rows path modified

-- the first refusal of a DELETE of a path
abbrev pub removal_refusal : Pod → Request → ℕ → List ℕ → Option Response
removal_refusal pod request seq path =
    first_of (refuse_if (has_children pod.rows path) (conflict (codes "not-empty")))
    (first_of (no_room pod seq 0) (condition_refusal pod request path))

abbrev pub delete_refusal : Pod → Request → ℕ → List ℕ → Option Response
delete_refusal pod request seq path =
    first_of (refuse_if (not (is_row pod.rows path)) (refusal 404 (codes "missing")))
    (removal_refusal pod request seq path)

-- The reply to a granted DELETE of a path.
unfoldable pub delete_reply : Pod → Request → List ℕ → Origin → List Basis → Reply
delete_reply pod request path origin bases = unless_refused
    (delete_refusal pod request origin.seq path) (change_reply changed
    (entry_of origin request.method path (delete_edits pod path origin.stamp.moment) bases))
