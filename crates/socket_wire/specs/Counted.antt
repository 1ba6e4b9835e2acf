-- What contracts see of wires.
use Rattle.std.specs.Prelude.{ℕ}

-- how many calls of their wires failed, and how many polls found a wire closed
pub record WireCounts : Type 0 where
  pub refused : ℕ
  pub closed : ℕ
