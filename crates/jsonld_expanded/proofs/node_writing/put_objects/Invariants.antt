use Rattle.std.proofs.Common.{take}
use Rattle.std.specs.List.{flat_map}
use Rattle.rdf_graph.specs.declared.triple.Triple.{Triple}
use Rattle.jsonld_expanded.specs.Document.{object_of}
use Rattle.jsonld_expanded.specs.Written.{Adds, tokens_of}
use Rattle.jsonld_expanded.proofs.node_writing.put_objects.Given as goal
use denote.Ref.{Bor}

abbrev pub invariant-loop-triple : goal.invariant-loop-triple
invariant-loop-triple l = Adds l.initial.writer l.writer (flat_map (λ (r : Bor Triple). tokens_of (object_of r.now)) (take l.triple-index l.triples))
