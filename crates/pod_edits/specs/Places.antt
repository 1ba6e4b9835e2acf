-- Where a new row goes in the tree of a pod.
use Rattle.std.specs.Prelude.{◌≡◌, ℕ, not, List, filter, reverse, Option, Some}
use Rattle.std.specs.List.{find}
use Rattle.pod_command.specs.declared.row.Row.{Row}
use Rattle.pod_rows.specs.Pod.{is_row}
use Rattle.pod_rows.specs.Tree.{ancestors}
use Rattle.pod_edits.specs.declared.new_row_place.Place.{Place}

-- The nearest ancestor of a path that is a row.
unfoldable pub nearest_of : List Row → List ℕ → Option (List ℕ)
nearest_of rows path = find (is_row rows) (ancestors path)

-- The ancestors of a path that are no rows, from the top.
unfoldable pub missing_of : List Row → List ℕ → List (List ℕ)
missing_of rows path = reverse (filter (λ above. not (is_row rows above)) (ancestors path))

-- The place of a path among rows.
pub record IsPlaceOf (rows : List Row) (path : List ℕ) (place : Place) : Type 0 where
  pub nearest : nearest_of rows path ≡ Some place.nearest
  pub missing : missing_of rows path ≡ place.missing.items
