use Rattle.std.proofs.Common.{◌≡◌, length}
use Rattle.slug_naming.specs.Stems.{without_dots}
use Rattle.slug_naming.proofs.stems.without_dots.Given as goal

abbrev pub invariant-loop-bytes : goal.invariant-loop-bytes
invariant-loop-bytes l = without_dots l.bytes ≡ without_dots l.fn.bytes

abbrev pub decreases-loop-bytes : goal.decreases-loop-bytes
decreases-loop-bytes l = length l.bytes
