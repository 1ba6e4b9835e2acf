use Rattle.std.proofs.Common.{◌≡◌, ◌+◌, ◌-◌, ◌≤◌, length, drop}
use Rattle.http_head.specs.HeadEnds.{blank_length}
use Rattle.http_head.proofs.head_ends.blank_length.Given as goal

-- what is passed so far and the empty lines of the rest are those of all
abbrev pub invariant-loop-at : goal.invariant-loop-at
invariant-loop-at l = (l.at ≤ length l.bytes) × (blank_length (drop l.at l.bytes) + l.at ≡ blank_length l.bytes)

abbrev pub decreases-loop-at : goal.decreases-loop-at
decreases-loop-at l = length l.bytes - l.at
