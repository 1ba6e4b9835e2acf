-- The refusals of a request that is granted, as one table: each reply is the refusal by the first of
-- its conditions that holds, or else the success of the method.
use Rattle.std.specs.Prelude.{◌≡◌, ℕ, ◌≤◌, List, [], ◌∷◌, ◌++◌, map, Option, Some, None}
use Rattle.std.specs.Prelude.{IfSome, Result, Ok, Err, length}
use Rattle.std.specs.List.{AllByRecursion}
use Rattle.patch_outcome.specs.Outcomes.{HasGraphs}
use Rattle.pod_base.specs.declared.method.Method.{Method}
use Rattle.pod_base.specs.declared.method.Method.TheVariants as methods
use Rattle.pod_base.specs.declared.moment.Stamp.{Stamp}
use Rattle.pod_base.specs.declared.request.Request.{Request}
use Rattle.pod_base.specs.declared.response.Response.{Response}
use Rattle.stored_forms.specs.StoredForms.{entry_bytes}
use Rattle.pod_command.specs.declared.basis.Basis.{Basis}
use Rattle.pod_command.specs.declared.entry.Entry.{Entry}
use Rattle.pod_path.specs.Hierarchy.{uri_of}
use Rattle.pod_reply.specs.AccessRank.{access_of}
use Rattle.pod_reply.specs.MemberNames.{IsNamed}
use Rattle.pod_reply.specs.PatchReplies.{IsBodyOutcome, patched_triples}
use Rattle.pod_reply.specs.PostReplies.{containment_refusal}
use Rattle.pod_reply.specs.Replies.{Reply, unchanged}
use Rattle.pod_reply.specs.Reply.{IsReply, agent_of, origin_of, sent}
use Rattle.pod_reply.specs.Shapes.{shape_of}
use Rattle.pod_reply.specs.declared.entry_size.TheConstants.{ENTRY_BYTES_LIMIT}
use Rattle.pod_responses.specs.Responses.{options_of_server}
use Rattle.pod_rows.specs.Pod.{Pod}
use Rattle.request_body.specs.Bodies.{Means}
use Rattle.request_body.specs.Refusals.{refusal_of}
use Rattle.request_body.specs.declared.body.RequestBody.{RequestBody}
use Rattle.request_body.specs.declared.fault.BodyFault.{BodyFault}
use Rattle.request_fields.specs.Links.{links_to_container}
use Rattle.request_fields.specs.PartFields.{slug}
use Rattle.request_target.specs.Admission.{admitted}
use Rattle.request_target.specs.declared.target.Target.TheVariants.{Resource, Server}
use Rattle.slug_naming.specs.Stems.{stem_of}
use Rattle.token_table.specs.Credentials.{AskedAgent}
use Rattle.refusal_laws.specs.Order.{BodyMeans}
use Rattle.refusal_laws.specs.RankConditions.{Found, Situation, accept_refusal, contains_refusal}
use Rattle.refusal_laws.specs.RankConditions.{content_in, missing_refusal, no_name_refusal}
use Rattle.refusal_laws.specs.RankConditions.{not_empty_refusal, not_graph_refusal, of_content}
use Rattle.refusal_laws.specs.RankConditions.{owner_refusal, patch_fails_refusal}
use Rattle.refusal_laws.specs.RankConditions.{precondition_refusal, range_refusal, row_in}
use Rattle.refusal_laws.specs.RankConditions.{rows_refusal, size_refused, subject_refusal}
use Rattle.refusal_laws.specs.RankConditions.{success_of, twin_refusal}

-- ---- the table

-- One condition under which a request is refused, and the word or status of the refusal.
pub data Condition : Type 0 where
  -- 404 `missing`: there is no row at the path
  missing : Condition
  -- 409 `twin`: a new path, or one above it, differs from a row by the last slash alone
  twin : Condition
  -- 409 `subject`: a new access list or description has no subject
  subject : Condition
  -- 409 `no-name`: the first free name of a member passes a limit of paths
  no_name : Condition
  -- 409 `not-empty`: the container to be removed has children
  not_empty : Condition
  -- 409 `not-graph`: the row to be patched is of bytes
  not_graph : Condition
  -- 507 `rows`: there is no room for the rows, or no number for the change
  rows : Condition
  -- 406 `accept`: the client accepts no representation
  accept : Condition
  -- 304, or 412 `condition`: by the preconditions
  precondition : Condition
  -- 416: no requested byte exists
  range : Condition
  -- 409 `contains`: a container's graph, or a patch of it, states what it contains
  contains : Condition
  -- 409 `no-match`, `many-matches`, `missing-deletion`, `not-triple`: the patch fails
  patch_fails : Condition
  -- 409 `owner`: the root's access list would take control from the owner
  owner : Condition
  -- 413 `entry-size`: the entry is too large, or a member's graph is under its own name
  size : Condition

-- The rank of a condition: 7 the place in the tree, 8 the representation, 9 the preconditions, 10
-- what a change would state, 11 the entry. Ranks 1 to 6 come before the table.
abbrev pub rank_of : Condition → ℕ
rank_of missing = 7
rank_of twin = 7
rank_of subject = 7
rank_of no_name = 7
rank_of not_empty = 7
rank_of not_graph = 7
rank_of rows = 7
rank_of accept = 8
rank_of precondition = 9
rank_of range = 9
rank_of contains = 10
rank_of patch_fails = 10
rank_of owner = 10
rank_of size = 11

-- All conditions, in the order in which they are looked at.
abbrev pub rank_table : List Condition
rank_table = missing ∷ twin ∷ subject ∷ no_name ∷ not_empty ∷ not_graph ∷ rows ∷ accept
    ∷ precondition ∷ range ∷ contains ∷ patch_fails ∷ owner ∷ size ∷ []

abbrev pub NeverFall : List ℕ → Type 0
NeverFall [] = Unit {0}
NeverFall (first ∷ []) = Unit {0}
NeverFall (first ∷ next ∷ more) = (first ≤ next) × NeverFall (next ∷ more)

-- ---- the law

-- The refusal by a condition, where it holds of a request of this method.
abbrev pub refusal_by : Method → Situation → Condition → Option Response
refusal_by method s missing = missing_refusal method s
refusal_by method s twin = twin_refusal method s
refusal_by method s subject = subject_refusal method s
refusal_by method s no_name = no_name_refusal method s
refusal_by method s not_empty = not_empty_refusal method s
refusal_by method s not_graph = not_graph_refusal method s
refusal_by method s rows = rows_refusal method s
refusal_by method s accept = accept_refusal method s
refusal_by method s precondition = precondition_refusal method s
refusal_by method s range = range_refusal method s
refusal_by method s contains = contains_refusal method s
refusal_by method s patch_fails = patch_fails_refusal method s
refusal_by method s owner = owner_refusal method s
refusal_by method s size = size_refused method s

-- what the body of a POST means under the name of its member, once its first graph may be stored
abbrev pub IsRenamed : Situation → Result (List ℕ) Response → Type 0
IsRenamed s (Err response) = Unit {0}
IsRenamed s (Ok member) = of_content (content_in s.body) (containment_refusal member) ≡ None
    → Means (uri_of s.pod.base member) s.path s.request s.found.renamed

-- What was found out for a condition is right.
abbrev pub IsFoundFor : Method → Situation → Condition → Type 0
IsFoundFor methods.Post s no_name = IsNamed s.pod s.path (stem_of (slug s.request.fields))
    (links_to_container s.request.fields) s.found.named
IsFoundFor methods.Post s contains = IsRenamed s s.found.named
IsFoundFor methods.Patch s contains = IsBodyOutcome s.body s.path (patched_triples (row_in s))
    s.found.outcome × HasGraphs s.found.outcome
IsFoundFor _ s condition = Unit {0}

-- None of these conditions holds, and what was found out for them is right.
abbrev pub NoneHolds : Situation → List Condition → Type 0
NoneHolds s list = AllByRecursion (λ (condition : Condition).
    IsFoundFor s.request.method s condition
    × (refusal_by s.request.method s condition ≡ None)) list

-- The reply is the refusal by one condition of the table, and none before it in the table holds.
pub record IsRefusedAt (s : Situation) (told : Reply) : Type 0 where
  pub before : List Condition
  pub condition : Condition
  pub after : List Condition
  pub table_is : before ++ condition ∷ after ≡ rank_table
  pub none_before : NoneHolds s before
  pub found_out : IsFoundFor s.request.method s condition
  pub response : Response
  pub holds : refusal_by s.request.method s condition ≡ Some response
  pub told_is : told ≡ unchanged response

-- No condition of the table holds, and the reply is the success of the method.
pub record IsSuccess (s : Situation) (told : Reply) : Type 0 where
  pub none : NoneHolds s rank_table
  pub told_is : told ≡ success_of s.request.method s

abbrev pub situation_of : Pod → Request → AskedAgent → ℕ → Stamp → List ℕ → List Basis
    → RequestBody → Found → Situation
situation_of pod request asked seq stamp path bases body found = record {
  pod = pod;
  request = request;
  path = path;
  origin = origin_of asked seq stamp;
  bases = bases;
  body = body;
  found = found;
}

-- What a reply is, before it is sent. Each case says that no condition of an earlier rank holds.
pub data IsByRank (pod : Pod) (request : Request) (asked : AskedAgent) (seq : ℕ) (stamp : Stamp)
    (told : Reply) : Type 0 where
  -- ranks 2 to 4: target, token or method is refused
  by_admission : (response : Response) → admitted pod.base request asked ≡ Err response
      → told ≡ unchanged response → IsByRank pod request asked seq stamp told
  -- OPTIONS of the server itself
  by_server : admitted pod.base request asked ≡ Ok Server → told ≡ unchanged options_of_server
      → IsByRank pod request asked seq stamp told
  -- rank 5: the body is at fault
  by_body : (path : List ℕ) (fault : BodyFault) → admitted pod.base request asked ≡ Ok (Resource path)
      → BodyMeans pod request path (Err fault)
      → told ≡ unchanged (refusal_of request.method path fault)
      → IsByRank pod request asked seq stamp told
  -- rank 6: a need isn't granted
  by_access : (path : List ℕ) (body : RequestBody) (response : Response)
      → admitted pod.base request asked ≡ Ok (Resource path) → BodyMeans pod request path (Ok body)
      → access_of pod (agent_of asked) (shape_of pod request path body) ≡ Err response
      → told ≡ unchanged response → IsByRank pod request asked seq stamp told
  -- ranks 7 to 11: the first condition of the table that holds
  by_table : (path : List ℕ) (body : RequestBody) (bases : List Basis) (found : Found)
      → admitted pod.base request asked ≡ Ok (Resource path) → BodyMeans pod request path (Ok body)
      → access_of pod (agent_of asked) (shape_of pod request path body) ≡ Ok bases
      → IsRefusedAt (situation_of pod request asked seq stamp path bases body found) told
      → IsByRank pod request asked seq stamp told
  -- no rank refuses it
  by_success : (path : List ℕ) (body : RequestBody) (bases : List Basis) (found : Found)
      → admitted pod.base request asked ≡ Ok (Resource path) → BodyMeans pod request path (Ok body)
      → access_of pod (agent_of asked) (shape_of pod request path body) ≡ Ok bases
      → IsSuccess (situation_of pod request asked seq stamp path bases body found) told
      → IsByRank pod request asked seq stamp told

-- The reply is one of these, as it is sent.
pub record IsRanked (pod : Pod) (request : Request) (asked : AskedAgent) (seq : ℕ) (stamp : Stamp)
    (reply : Reply) : Type 0 where
  pub told : Reply
  pub reply_is : reply ≡ sent request.method told
  pub ranked : IsByRank pod request asked seq stamp told

abbrev pub RepliesAreRanked : Type 0
RepliesAreRanked = (pod : Pod) (request : Request) (asked : AskedAgent) (seq : ℕ) (stamp : Stamp)
    (reply : Reply) → IsReply pod request asked seq stamp reply
    → IsRanked pod request asked seq stamp reply

-- The stored form of the entry of each reply is within the limit.
abbrev pub EntriesFit : Type 0
EntriesFit = (pod : Pod) (request : Request) (asked : AskedAgent) (seq : ℕ) (stamp : Stamp)
    (reply : Reply) → IsReply pod request asked seq stamp reply
    → IfSome reply.entry (λ (entry : Entry). length (entry_bytes entry) ≤ ENTRY_BYTES_LIMIT)

-- The ranks of the table never fall.
abbrev pub RanksAreInOrder : Type 0
RanksAreInOrder = NeverFall (map rank_of rank_table)
