use Rattle.std.proofs.Common.{◌≡◌, take}
use Rattle.rdf_graph.specs.Size.{saturated}
use Rattle.n3_patch.specs.Size.{patch_size}
use Rattle.n3_patch.proofs.size.document_bytes.Given as goal

abbrev pub invariant-loop-triple : goal.invariant-loop-triple
invariant-loop-triple l = l.size ≡ saturated (patch_size (take l.triple-index l.triples))
