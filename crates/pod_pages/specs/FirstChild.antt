-- Children of a container among the items directly below it.
use Rattle.std.specs.Prelude.{ℕ, Bool, ◌&&◌, List}
use Rattle.std.specs.List.{list_any}
use Rattle.pod_rows.specs.Tree.{is_child_of}
use Rattle.row_pages.specs.Delimited.{is_direct}
use Rattle.row_pages.specs.Items.{Placed}

-- Is the item a child of the container, and directly below it?
abbrev pub is_direct_child : List ℕ → Placed → Bool
is_direct_child container item =
    is_direct container item.row.path && is_child_of container item.row

abbrev pub has_direct_child : List Placed → List ℕ → Bool
has_direct_child items container = list_any (is_direct_child container) items
