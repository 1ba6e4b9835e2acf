use Rattle.std.proofs.Common.{◌≡◌, take}
use Rattle.std.specs.List.{filter}
use Rattle.std.specs.Option.{option_copied}
use Rattle.rdf_graph.specs.Triple.{has_terms}
use Rattle.rdf_graph.proofs.graph.Graph.matching.Given as goal

-- what has_terms among the triples so far
abbrev pub invariant-loop-triple : goal.invariant-loop-triple
invariant-loop-triple l =
    l.found.items ≡ filter (has_terms (option_copied l.s) (option_copied l.p) (option_copied l.o)) (take l.triple-index l.triple-items)
