-- What edits make of the items of a version, before their lists are resolved.
use Rattle.std.specs.Prelude.{◌≡◌, ℕ, Bool, false, List, Option, Some, None, map}
use Rattle.pod_command.specs.declared.row.Row.{Row}
use Rattle.row_pages.specs.Items.{Placed, item_at, rows_of}

abbrev pub list_if : Option Placed → ℕ
list_if None = 0
list_if (Some item) = item.list

abbrev pub own_mark_if : Option Placed → Bool
own_mark_if None = false
own_mark_if (Some item) = item.own

-- The row with the mark that the path has in the old items, if there is an item.
abbrev pub placed_by : List Placed → Row → Placed
placed_by old row = record {
  row = row;
  list = list_if (item_at old row.path);
  own = own_mark_if (item_at old row.path);
}

-- The rows of items, if there are any.
abbrev pub rows_if : Option (List Placed) → Option (List Row)
rows_if None = None
rows_if (Some items) = Some (rows_of items)

-- The items have the marks of the old ones.
abbrev pub AreMarkedBy : List Placed → List Placed → Type 0
AreMarkedBy old items = items ≡ map (placed_by old) (rows_of items)

abbrev pub AreMarkedIf : List Placed → Option (List Placed) → Type 0
AreMarkedIf old None = Unit {0}
AreMarkedIf old (Some items) = AreMarkedBy old items
