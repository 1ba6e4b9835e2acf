use Rattle.std.proofs.Common.{◌≡◌, ◌+◌, ◌-◌, ◌≤◌, length, drop}
use Rattle.std.specs.Option.{option_map}
use Rattle.http_head.specs.HeadEnds.{head_length}
use Rattle.http_head.proofs.head_ends.head_length.Given as goal

-- no head ended so far, so that of all ends where that of the rest does
abbrev pub invariant-loop-skipped : goal.invariant-loop-skipped
invariant-loop-skipped l = (l.at ≤ length l.bytes) × (head_length l.bytes ≡ option_map (λ n. n + l.at) (head_length (drop l.at l.bytes)))

abbrev pub decreases-loop-skipped : goal.decreases-loop-skipped
decreases-loop-skipped l = length l.bytes - l.at
