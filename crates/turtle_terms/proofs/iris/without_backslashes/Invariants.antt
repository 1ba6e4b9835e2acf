use Rattle.std.proofs.Common.{◌≡◌, not, take}
use Rattle.std.specs.List.{filter}
use Rattle.turtle_terms.specs.Values.{is_backslash}
use Rattle.turtle_terms.proofs.iris.without_backslashes.Given as goal

abbrev pub invariant-loop-byte : goal.invariant-loop-byte
invariant-loop-byte l = l.rest.items ≡ filter (λ b. not (is_backslash b)) (take l.byte-index l.byte-items)
