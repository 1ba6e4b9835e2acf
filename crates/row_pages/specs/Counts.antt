-- How a count of steps is kept.
use Rattle.std.specs.Prelude.{◌≡◌, ℕ, ◌<◌, ◌^◌}

-- A ledger's total, of which some parts are held, and the number that shows it. The number is exact
-- where it fits in 64 bits.
pub record IsCount (parts total count : ℕ) : Type 0 where
  pub held : 0 < parts
  pub exact : total < 2 ^ 64 → count ≡ total
