-- The reply to a POST that is granted: a new member of the container, by the first free name.
use Rattle.std.specs.Prelude.{◌≡◌, ℕ, not, List, Option, Result, Ok, Err, codes}
use Rattle.pod_base.specs.declared.request.Request.{Request}
use Rattle.pod_base.specs.declared.response.Response.{Response}
use Rattle.pod_command.specs.declared.basis.Basis.{Basis}
use Rattle.pod_command.specs.declared.row.Content.{Content as RowContent}
use Rattle.pod_rows.specs.View.{triples_in}
use Rattle.pod_edits.specs.Edits.{creation_edits}
use Rattle.pod_edits.specs.Refusals.{states_containment}
use Rattle.pod_path.specs.Hierarchy.{uri_of}
use Rattle.pod_responses.specs.Responses.{refusal, created}
use Rattle.pod_rows.specs.Pod.{Pod, is_row}
use Rattle.request_body.specs.Bodies.{Outcome, Means}
use Rattle.request_body.specs.declared.body.RequestBody.{RequestBody}
use Rattle.request_body.specs.declared.body.RequestBody.TheVariants.{Content}
use Rattle.request_fields.specs.Links.{links_to_container}
use Rattle.request_fields.specs.PartFields.{slug}
use Rattle.slug_naming.specs.Names.{candidate_path}
use Rattle.slug_naming.specs.Stems.{stem_of}
use Rattle.pod_reply.specs.EntrySize.{size_refusal}
use Rattle.pod_reply.specs.MemberNames.{IsNamed}
use Rattle.pod_reply.specs.Obstacles.{first_of, refuse_if, conflict, no_room, condition_refusal}
use Rattle.pod_reply.specs.PutReplies.{row_of, unless_refused, IsUnlessRefused}
use Rattle.pod_reply.specs.Replies.{Reply, unchanged, entry_of, change_reply}
use Rattle.pod_reply.specs.declared.origin.Origin.{Origin}

-- the URI of the first candidate, which relative references of the body are resolved against when
-- it is judged
abbrev pub candidate_base : Pod → Request → List ℕ → List ℕ
candidate_base pod request path = uri_of pod.base
    (candidate_path path (stem_of (slug request.fields)) (links_to_container request.fields) 0)

-- a container doesn't state what it contains
abbrev pub containment_refusal : List ℕ → RowContent → Option Response
containment_refusal member content =
    refuse_if (states_containment member (triples_in content)) (conflict (codes "contains"))

-- the first refusal of the member, with the content that was read
unfoldable pub member_refusal : Pod → Request → ℕ → List ℕ → List ℕ → RowContent → Option Response
member_refusal pod request seq path member content =
    first_of (no_room pod seq 1) (first_of (condition_refusal pod request path)
    (containment_refusal member content))

abbrev pub IsContentBody : RequestBody → Type 0
IsContentBody (Content content) = Unit {0}
IsContentBody other = ⊥

module _ (pod : Pod) (request : Request) (path : List ℕ) (origin : Origin) (bases : List Basis) where
  -- The member has the graph that the body spells under its own name; 413 where that is too large.
  abbrev pub member_reply : List ℕ → RowContent → Reply
  member_reply member content =
      change_reply (created pod.base path member) (entry_of origin request.method path
      (creation_edits pod.rows (row_of member content origin.stamp.moment)) bases)

  -- The graph under the member's own name is judged too.
  abbrev pub judged_member : List ℕ → RowContent → Reply
  judged_member member content =
      unless_refused (containment_refusal member content) (member_reply member content)

  abbrev pub IsMemberReply : List ℕ → Outcome → Reply → Type 0
  IsMemberReply member (Err fault) reply = reply ≡ unchanged size_refusal
  IsMemberReply member (Ok (Content content)) reply = reply ≡ judged_member member content
  IsMemberReply member (Ok other) reply = ⊥

  pub record IsMade (member : List ℕ) (reply : Reply) : Type 0 where
    pub read : Outcome
    pub means : Means (uri_of pod.base member) path request read
    pub follows : IsMemberReply member read reply

  abbrev pub IsNamedReply : RowContent → Result (List ℕ) Response → Reply → Type 0
  IsNamedReply content (Err response) reply = reply ≡ unchanged response
  IsNamedReply content (Ok member) reply = IsUnlessRefused
      (member_refusal pod request origin.seq path member content) (IsMade member) reply

  pub record IsPosted (content : RowContent) (reply : Reply) : Type 0 where
    pub named : Result (List ℕ) Response
    pub is : IsNamed pod path (stem_of (slug request.fields)) (links_to_container request.fields)
        named
    pub follows : IsNamedReply content named reply

  -- The reply to a granted POST to a path with this content.
  abbrev pub IsPostReply : RowContent → Reply → Type 0
  IsPostReply content reply = IsUnlessRefused
      (refuse_if (not (is_row pod.rows path)) (refusal 404 (codes "missing"))) (IsPosted content)
      reply
