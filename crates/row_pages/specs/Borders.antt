-- Where a path belongs among parts in order.
use Rattle.std.specs.Prelude.{◌≡◌, ℕ, Bool, false, not, List, [], ◌∷◌, Option, Some, None}
use Rattle.std.specs.List.{AllByRecursion, slice_get}
use Rattle.std.specs.declared.cmp.Ordering.TheVariants.{Less}
use Rattle.rdf_graph.specs.Triple.{bytes_cmp}
use Rattle.row_pages.specs.Items.{Placed, first_of, is_before, begins_with}

-- The path of the first item; an empty text where there is no item.
abbrev pub first_path : List Placed → List ℕ
first_path [] = []
first_path (item ∷ items) = item.row.path

-- Does the first path begin with the text? None where there is no item.
abbrev pub first_begins : List ℕ → List Placed → Option Bool
first_begins prefix [] = None
first_begins prefix (item ∷ items) = Some (begins_with prefix item)

abbrev pub first_if : {X : Type 0} → (X → List Placed) → Option X → Option (List ℕ)
first_if items None = None
first_if items (Some part) = first_of (items part)

-- The first path of the part at a position.
abbrev pub first_at : {X : Type 0} → (X → List Placed) → List X → ℕ → Option (List ℕ)
first_at items parts at = first_if items (slice_get parts at)

-- Is there a first path, and the other is not before it?
abbrev pub starts_by : List ℕ → Option (List ℕ) → Bool
starts_by path None = false
starts_by path (Some first) = not (is_before path first)

-- Is there a first path, and the other is before it?
abbrev pub starts_after : List ℕ → Option (List ℕ) → Bool
starts_after path None = false
starts_after path (Some first) = is_before path first

-- All items are before the path.
abbrev pub AreBefore : List ℕ → List Placed → Type 0
AreBefore path items = AllByRecursion (λ (item : Placed). bytes_cmp item.row.path path ≡ Less) items

-- All items are after the path.
abbrev pub AreAfter : List ℕ → List Placed → Type 0
AreAfter path items = AllByRecursion (λ (item : Placed). bytes_cmp path item.row.path ≡ Less) items
