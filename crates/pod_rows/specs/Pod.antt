-- A pod as contracts see it, and how its rows are found.
use Rattle.std.specs.Prelude.{ℕ, Bool, false, List, Option, Some, None, is_some, bytes_eq}
use Rattle.std.specs.List.{find}
use Rattle.pod_command.specs.declared.row.Row.{Row}

-- A pod: its base, its owner, and its rows in byte order of their paths.
pub record Pod : Type 0 where
  pub base : List ℕ
  pub owner : List ℕ
  pub rows : List Row

-- Is the row at the path?
abbrev pub is_at : List ℕ → Row → Bool
is_at path row = bytes_eq row.path path

-- The row at a path.
abbrev pub row_at : List Row → List ℕ → Option Row
row_at rows path = find (is_at path) rows

-- Is there a row at the path?
abbrev pub is_row : List Row → List ℕ → Bool
is_row rows path = is_some (row_at rows path)

-- Is there a path, and a row at it?
abbrev pub is_row_of : List Row → Option (List ℕ) → Bool
is_row_of rows None = false
is_row_of rows (Some path) = is_row rows path
