use Rattle.std.proofs.Common.{All, drop, take}
use Rattle.jsonld_expanded.specs.Widths.{objects_width}
use Rattle.jsonld_expanded.specs.Written.{HasAbsoluteIris}
use Rattle.jsonld_expanded.proofs.Widths.{HasLeftLen}
use Rattle.jsonld_expanded.proofs.written_len.objects_len.Given as goal

abbrev pub invariant-loop-triple : goal.invariant-loop-triple
invariant-loop-triple l = HasLeftLen l.len (objects_width (drop l.triple-index l.triples)) (objects_width l.triples) × All HasAbsoluteIris (take l.triple-index l.triples)
