use Rattle.std.proofs.Common.{◌≡◌, ◌≤◌, drop}
use Rattle.range_req.specs.Numbers.{limited, value, value_after}
use Rattle.range_req.proofs.position_number.limited.Given as goal

-- the number so far, and what the other digits make of it
abbrev pub invariant-loop-digit : goal.invariant-loop-digit
invariant-loop-digit l = record {
  bound : l.number ≤ 1_000_000_000_000_000_000;
  rest : limited (value_after l.number (drop l.digit-index l.digits)) ≡ limited (value l.digits);
}
