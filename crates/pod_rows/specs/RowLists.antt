-- Lists of rows that may not be there, and of the paths of rows.
use Rattle.std.specs.Prelude.{ℕ, List, Option, Some, None, filter, map, nat_eq}
use Rattle.std.specs.Global.{Vec}
use Rattle.std.specs.List.{starts_with}
use Rattle.pod_command.specs.declared.row.Row.{Row}

-- The rows of a vector, if there is one.
abbrev pub items_if : Option (Vec Row) → Option (List Row)
items_if None = None
items_if (Some rows) = Some rows.items

-- The paths of rows that begin with a text.
abbrev pub paths_below : List Row → List ℕ → List (List ℕ)
paths_below rows text = map (λ row. row.path) (filter (λ row. starts_with nat_eq row.path text) rows)
