-- Lists of paths as sets: in byte order, and what is left after some are added and some removed.
use Rattle.std.specs.Prelude.{◌≡◌, ℕ, Bool, not, ◌&&◌, ◌||◌, List, bytes_eq}
use Rattle.std.specs.List.{list_any}
use Rattle.std.specs.List.Sorted.{IsStrictlySortedBy}
use Rattle.rdf_graph.specs.Triple.{bytes_cmp}

-- Is the path in the list?
abbrev pub is_listed : List (List ℕ) → List ℕ → Bool
is_listed paths path = list_any (λ other. bytes_eq other path) paths

-- The paths are in byte order, each once.
abbrev pub AreOrdered : List (List ℕ) → Type 0
AreOrdered paths = IsStrictlySortedBy bytes_cmp paths

-- Is the path in the list after these are added and those removed? A path that is both is.
abbrev pub is_listed_after : List (List ℕ) → List (List ℕ) → List (List ℕ) → List ℕ → Bool
is_listed_after paths added removed path = is_listed added path
    || (is_listed paths path && not (is_listed removed path))

-- The list is that of exactly those paths, in byte order.
pub record IsListOf (is_row : List ℕ → Bool) (paths : List (List ℕ)) : Type 0 where
  pub order : AreOrdered paths
  pub listed : (path : List ℕ) → is_listed paths path ≡ is_row path
