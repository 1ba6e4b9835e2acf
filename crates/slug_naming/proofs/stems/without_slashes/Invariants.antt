use Rattle.std.proofs.Common.{◌≡◌, ◌++◌, length}
use Rattle.slug_naming.specs.Stems.{without_slashes}
use Rattle.slug_naming.proofs.stems.without_slashes.Given as goal

abbrev pub invariant-loop-byte : goal.invariant-loop-byte
invariant-loop-byte l = l.kept.items ++ without_slashes l.rest ≡ without_slashes l.bytes

abbrev pub decreases-loop-byte : goal.decreases-loop-byte
decreases-loop-byte l = length l.rest
