use Rattle.std.proofs.Common.{◌≡◌, take}
use Rattle.rdf_graph.specs.Term.{escaped}
use Rattle.rdf_graph.proofs.text_append.plain_len.Given as goal

abbrev pub invariant-loop-i : goal.invariant-loop-i
invariant-loop-i l = escaped (take l.i l.bytes) ≡ take l.i l.bytes
