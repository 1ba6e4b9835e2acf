-- What the body of a PATCH does to the graph of its path.
use Rattle.std.proofs.Common.{◌≡◌, ℕ, Bool, true, false, cond, List, [], ◌∷◌, Some, Ok}
use Rattle.std.specs.List.{AllByRecursion}
use Rattle.pod_base.specs.declared.method.Method.TheVariants as methods
use Rattle.pod_base.specs.declared.request.Request.{Request}
use Rattle.pod_command.specs.declared.row.Content.{Content as RowContent}
use Rattle.pod_command.specs.declared.row.Content.TheVariants as contents
use Rattle.pod_command.specs.declared.row.Row.{Row}
use Rattle.pod_path.specs.Hierarchy.{is_container}
use Rattle.pod_reply.proofs.BodyLemmas.{patch_body}
use Rattle.pod_reply.specs.PatchReplies.{patched_triples}
use Rattle.pod_reply.specs.Reply.{body_base}
use Rattle.pod_rows.specs.Pod.{Pod, is_at, row_at}
use Rattle.pod_rows.specs.View.{triples_in}
use Rattle.rdf_graph.proofs.Graphs.{graph_of_none}
use Rattle.rdf_graph.specs.Graph.{IsGraph}
use Rattle.request_body.specs.declared.body.RequestBody.{RequestBody}
use Rattle.request_body.specs.declared.body.RequestBody.TheVariants.{Content, Nothing, Patch, Update}
use Rattle.refusal_laws.specs.Order.{BodyMeans}
use Rattle.refusal_laws.specs.SomeReplies.{HoldGraphs, HoldsGraph, SomeChange}
use Rattle.refusal_laws.proofs.PatchOutcomes.{patch_outcome, update_outcome}

content_graph : (content : RowContent) → HoldsGraph content → IsGraph (triples_in content)
content_graph (contents.Graph triples) h = h
content_graph (contents.Bytes ctype bytes) h = graph_of_none

row_graph : (rows : List Row) (path : List ℕ) → AllByRecursion (λ (row : Row). HoldsGraph row.content) rows → IsGraph (patched_triples (row_at rows path))
row_graph [] path h = graph_of_none
row_graph (row ∷ rows) path h = by_test (is_at path row) (row_graph rows path h.1)
  where
    by_test : (b : Bool) → IsGraph (patched_triples (row_at rows path)) → IsGraph (patched_triples (cond b (Some row) (row_at rows path)))
    by_test true rest = content_graph row.content h.0
    by_test false rest = rest

module _ (pod : Pod) (graphs : HoldGraphs pod) (request : Request) (path : List ℕ) (is : request.method ≡ methods.Patch) where
  pub some_change : (body : RequestBody) → BodyMeans pod request path (Ok body) → SomeChange pod path body
  some_change Nothing means = absurd (patch_body (body_base request.method pod request path) path request Nothing is means tt)
  some_change (Content content) means = absurd (patch_body (body_base request.method pod request path) path request (Content content) is means tt)
  some_change (Patch patch) means =
      let all = patch_outcome (is_container path) (patched_triples (row_at pod.rows path)) (row_graph pod.rows path graphs) patch in
      record { outcome = all.0; is = all.1; graphs = all.2 }
  some_change (Update named) means =
      let all = update_outcome (is_container path) (patched_triples (row_at pod.rows path)) (row_graph pod.rows path graphs) named.items in
      record { outcome = all.0; is = all.1; graphs = all.2 }
