use Rattle.std.proofs.Common.{◌≡◌, length}
use Rattle.rdf_graph.specs.Triple.{triple_cmp}
use Rattle.stored_forms.specs.Reading.{is_rising}
use Rattle.stored_forms.proofs.graph_form.are_rising.Given as goal

abbrev pub invariant-loop-first : goal.invariant-loop-first
invariant-loop-first l = is_rising triple_cmp l.rest ≡ is_rising triple_cmp l.triples

abbrev pub decreases-loop-first : goal.decreases-loop-first
decreases-loop-first l = length l.rest
