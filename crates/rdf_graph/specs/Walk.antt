-- The triples that a walk has not yet yielded.
use Rattle.std.specs.Prelude.{List}
use Rattle.std.specs.List.{filter}
use Rattle.std.specs.Option.{option_copied}
use Rattle.rdf_graph.specs.Triple.{has_terms}
use Rattle.rdf_graph.specs.declared.triple.Triple.{Triple}
use Rattle.rdf_graph.specs.declared.triple_walk.Walk.{Walk}

abbrev pub walk_rest : Walk → List Triple
walk_rest w =
    filter (has_terms (option_copied w.s) (option_copied w.p) (option_copied w.o)) w.rest.now
