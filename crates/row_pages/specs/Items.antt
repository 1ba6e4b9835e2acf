-- Items in byte order of their paths: what is found among them, and what putting and removing make.
use Rattle.std.specs.Prelude.{ℕ, Bool, not, List, [], ◌++◌, ◌∷◌, Option, Some, None, map, filter, bytes_eq, nat_eq}
use Rattle.std.specs.List.{find, starts_with}
use Rattle.std.specs.List.Sorted.{IsStrictlySortedBy}
use Rattle.std.specs.Ordering.{is_lt, on}
use Rattle.rdf_graph.specs.Triple.{bytes_cmp}
use Rattle.pod_command.specs.declared.row.Row.{Row}

-- A row, and the access list that governs it: the number of the list, and whether it is the row's
-- own.
pub record Placed : Type 0 where
  pub row : Row
  pub list : ℕ
  pub own : Bool

abbrev pub path_of : Placed → List ℕ
path_of item = item.row.path

-- The path of the first item, if there is one.
abbrev pub first_of : List Placed → Option (List ℕ)
first_of [] = None
first_of (item ∷ items) = Some (path_of item)

-- The rows of items.
abbrev pub rows_of : List Placed → List Row
rows_of items = map (λ item. item.row) items

-- Each path once, in byte order.
abbrev pub AreItemsInOrder : List Placed → Type 0
AreItemsInOrder items = IsStrictlySortedBy (on path_of bytes_cmp) items

-- Is the path before the other in byte order?
abbrev pub is_before : List ℕ → List ℕ → Bool
is_before path other = is_lt (bytes_cmp path other)

-- Is the item at the path?
abbrev pub is_at : List ℕ → Placed → Bool
is_at path item = bytes_eq item.row.path path

-- The item at the path.
abbrev pub item_at : List Placed → List ℕ → Option Placed
item_at items path = find (is_at path) items

-- The items with this one, which replaces the one at its path.
abbrev pub put_item : List Placed → Placed → List Placed
put_item items item = filter (λ other. is_before other.row.path item.row.path) items
    ++ item ∷ filter (λ other. is_before item.row.path other.row.path) items

-- The items without the one at the path.
abbrev pub remove_item : List Placed → List ℕ → List Placed
remove_item items path = filter (λ item. not (is_at path item)) items

-- Does the item's path begin with that text?
abbrev pub begins_with : List ℕ → Placed → Bool
begins_with prefix item = starts_with nat_eq item.row.path prefix

-- The items whose paths begin with a text.
abbrev pub items_below : List Placed → List ℕ → List Placed
items_below items prefix = filter (begins_with prefix) items

-- The first item whose path isn't before the text.
abbrev pub first_from : List Placed → List ℕ → Option Placed
first_from items text = find (λ item. not (is_before item.row.path text)) items

-- The first item, if there is one.
abbrev pub first_item : List Placed → Option Placed
first_item [] = None
first_item (item ∷ items) = Some item
