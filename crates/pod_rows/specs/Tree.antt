-- The tree of a pod: the children and the ancestors of a path.
use Rattle.std.specs.Prelude.{ℕ, zero, suc, Bool, false, not, ◌&&◌, List, [], ◌∷◌, Option, Some}
use Rattle.std.specs.Prelude.{None}
use Rattle.std.specs.Prelude.{bytes_eq, map, filter, length, take}
use Rattle.std.specs.List.{list_any}
use Rattle.pod_path.specs.Hierarchy.{is_auxiliary, is_container, parent_of}
use Rattle.pod_command.specs.declared.row.Row.{Row}

-- Is that the path?
abbrev pub is_the_path : List ℕ → Option (List ℕ) → Bool
is_the_path path None = false
is_the_path path (Some other) = bytes_eq other path

-- Is the row a child of the container? Access lists and descriptions are no children.
abbrev pub is_child_of : List ℕ → Row → Bool
is_child_of container row =
    not (is_auxiliary row.path) && is_the_path container (parent_of row.path)

-- The paths of a container's children, in byte order.
abbrev pub children_of : List Row → List ℕ → List (List ℕ)
children_of rows container = map (λ row. row.path) (filter (is_child_of container) rows)

-- Is a row a child of the container?
abbrev pub has_child : List Row → List ℕ → Bool
has_child rows container = list_any (is_child_of container) rows

-- The beginnings of a text that are shorter than n bytes, the longest first.
abbrev pub beginnings : List ℕ → ℕ → List (List ℕ)
beginnings text zero = []
beginnings text (suc n) = take n text ∷ beginnings text n

-- The ancestors of a path, the nearest first: each container that the path begins with and that is
-- shorter.
abbrev pub ancestors : List ℕ → List (List ℕ)
ancestors path = filter is_container (beginnings path (length path))
