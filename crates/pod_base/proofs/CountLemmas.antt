-- Counts that increased, one call after another.
use Rattle.std.proofs.Common.{◌≡◌, ℕ, ◌+◌, ◌-◌, ◌^◌, ◌≤◌, min, arith}
use Rattle.pod_base.specs.Counts.{CountIncreased}

-- it increased, and didn't fall after that
pub increased_then : (old mid new : ℕ) → CountIncreased old mid → mid ≤ new → CountIncreased old new
increased_then old mid new up le = λ below. omega (arith, le, below, up (omega (arith, le, below)))

-- it didn't fall, and increased after that
pub then_increased : (old mid new : ℕ) → old ≤ mid → CountIncreased mid new → CountIncreased old new
then_increased old mid new le up = λ below. omega (arith, le, up below)

-- one more was counted, as far as the number holds it
pub counted_one : (old new : ℕ) → new ≡ min (old + 1) (2 ^ 64 - 1) → CountIncreased old new
counted_one old new is = λ below. omega (arith, is, below)
