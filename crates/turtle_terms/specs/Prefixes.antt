-- The declared prefixes.
use Rattle.std.specs.Prelude.{ℕ, List}
use Rattle.std.specs.Ordering.{nat_cmp}
use Rattle.std.specs.Cmp.Lexicographic.{slice_cmp}
use Rattle.std.specs.FinMap as map

-- the IRIs of the declared prefixes
abbrev pub Prefixes : Type 0
Prefixes = map.FinMap (slice_cmp nat_cmp) (List ℕ)
