-- The bytes of a literal that have an escape.
use Rattle.std.specs.Prelude.{ℕ, Bool, ◌||◌, ◌==◌}

-- `\`, `"`, LF and CR
abbrev pub has_escape : ℕ → Bool
has_escape b = b == 92 || (b == 34 || (b == 10 || b == 13))
