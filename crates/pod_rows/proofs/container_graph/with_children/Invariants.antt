use Rattle.std.proofs.Common.{◌≡◌, ◌++◌, take}
use Rattle.pod_rows.specs.ContainedTriples.{child_triples}
use Rattle.pod_rows.proofs.container_graph.with_children.Given as goal

abbrev pub invariant-loop-child : goal.invariant-loop-child
invariant-loop-child l = l.all.items ≡ l.fn.triples.items ++ child_triples l.base l.uri (take l.child-index l.children)
