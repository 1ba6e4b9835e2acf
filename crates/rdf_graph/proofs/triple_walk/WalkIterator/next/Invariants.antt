use Rattle.std.proofs.Common.{◌≡◌, length}
use Rattle.rdf_graph.specs.Walk.{walk_rest}
use Rattle.rdf_graph.proofs.triple_walk.WalkIterator.next.Given as goal

abbrev pub invariant-loop-first : goal.invariant-loop-first
invariant-loop-first l = walk_rest l.self ≡ walk_rest l.initial.self

abbrev pub decreases-loop-first : goal.decreases-loop-first
decreases-loop-first l = length l.self.rest.now
