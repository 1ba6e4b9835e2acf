use Rattle.std.proofs.Common.{◌≡◌, length}
use Rattle.pod_path.specs.Escapes.{prepend, normalize_escapes}
use Rattle.pod_path.proofs.escapes.normalize_escapes.Given as goal

abbrev pub invariant-loop-rest : goal.invariant-loop-rest
invariant-loop-rest l = prepend l.bytes.items (normalize_escapes l.rest) ≡ normalize_escapes l.text

abbrev pub decreases-loop-rest : goal.decreases-loop-rest
decreases-loop-rest l = length l.rest
