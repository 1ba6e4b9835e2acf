-- What the counts of an outside object say of a call.
use Rattle.std.specs.Prelude.{◌≡◌, ℕ, ◌==◌, ◌+◌, ◌-◌, ◌^◌, ◌≤◌, if◌then◌else◌, min}
use Rattle.std.specs.Prelude.{Result, IsErr, IfOk, OnOk, OnErr}
use Rattle.pod_base.specs.Counts.{CountIncreased}

-- a call's count of faults never falls, and it increased where the call failed
pub record CountsFaults {T E : Type 0} (result : Result T E) (old new : ℕ) : Type 0 where
  pub no_fewer : old ≤ new
  pub failed : IsErr result → CountIncreased old new

-- A count of 64 bits, one greater than it was. It stops at the last number that it can hold.
abbrev pub next_count : ℕ → ℕ
next_count count = min (count + 1) (2 ^ 64 - 1)

-- A read that succeeded is counted, also where it found the end, and one that failed is not.
pub record CountsReads {T E : Type 0} (result : Result T E) (old new : ℕ) : Type 0 where
  pub no_fewer : old ≤ new
  pub read : OnOk result (new ≡ next_count old)
  pub failed : OnErr result (new ≡ old)

-- a read that succeeded without a byte, since it found the end, is counted, and no other is
pub record CountsEnds {E : Type 0} (result : Result ℕ E) (old new : ℕ) : Type 0 where
  pub no_fewer : old ≤ new
  pub read : IfOk result (λ count. new ≡ (if count == 0 then next_count old else old))
  pub failed : OnErr result (new ≡ old)
