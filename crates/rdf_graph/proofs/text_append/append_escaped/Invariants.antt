use Rattle.std.proofs.Common.{◌≡◌, ◌++◌, length}
use Rattle.rdf_graph.specs.Term.{escaped}
use Rattle.rdf_graph.proofs.text_append.append_escaped.Given as goal

abbrev pub invariant-loop-rest : goal.invariant-loop-rest
invariant-loop-rest l = l.into.items ++ escaped l.rest ≡ l.initial.into.items ++ escaped l.fn.lexical

abbrev pub decreases-loop-rest : goal.decreases-loop-rest
decreases-loop-rest l = length l.rest
