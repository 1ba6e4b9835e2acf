-- The bytes of a text that are not yet yielded.
use Rattle.std.specs.Prelude.{ℕ, List, ◌++◌}
use Rattle.rdf_graph.specs.Term.{escaped}
use Rattle.rdf_graph.specs.declared.term.Written.{Written}

abbrev pub written_rest : Written → List ℕ
written_rest w = w.plain.now ++ (escaped w.quoted.now ++ (w.mark.now ++ (w.name.now ++ w.end.now)))
