-- Counts in a number of 64 bits, which stop at the last number that it holds.
use Rattle.std.specs.Prelude.{ℕ, ◌-◌, ◌^◌, ◌<◌}

-- A count increased: unless it is at the last number that it can hold, it is greater than it was.
abbrev pub CountIncreased : ℕ → ℕ → Type 0
CountIncreased old new = new < 2 ^ 64 - 1 → old < new
