-- How a listing goes on from one item to the next.
use Rattle.std.specs.Prelude.{◌≡◌, ◌⊎◌, ℕ, Bool, true, false, not, List, [], ◌∷◌, ◌++◌, filter, nat_eq}
use Rattle.std.specs.List.{starts_with}
use Rattle.std.specs.declared.cmp.Ordering.TheVariants.{Less}
use Rattle.rdf_graph.specs.Triple.{bytes_cmp}
use Rattle.row_pages.specs.Delimited.{is_direct, items_direct}
use Rattle.row_pages.specs.Items.{Placed, AreItemsInOrder, begins_with, is_before}

-- The items whose paths aren't before the text.
abbrev pub items_from : List Placed → List ℕ → List Placed
items_from items text = filter (λ item. not (is_before item.row.path text)) items

-- Does the first path begin with the text?
abbrev pub starts_below : List ℕ → List Placed → Bool
starts_below prefix [] = false
starts_below prefix (item ∷ items) = begins_with prefix item

-- The text begins with the prefix, and is after the path; what is between is not directly below.
pub record IsNextText (prefix path text : List ℕ) : Type 0 where
  pub begins : starts_with nat_eq text prefix ≡ true
  pub after : bytes_cmp path text ≡ Less
  pub none : (other : List ℕ) → bytes_cmp path other ≡ Less → bytes_cmp other text ≡ Less
      → is_direct prefix other ≡ false

-- The text from which a listing goes on after a path: the one before, or a next one.
abbrev pub IsRaised : List ℕ → List ℕ → List ℕ → List ℕ → Type 0
IsRaised prefix path old new = (new ≡ old) ⊎ IsNextText prefix path new

-- A listing has passed the items: what it has, and what is still directly below among those from
-- its text on, is what it had and was below, whatever items follow.
pub record IsListed (prefix : List ℕ) (items : List Placed) (old : List ℕ) (had : List Placed)
    (new : List ℕ) (has : List Placed) : Type 0 where
  pub begins : starts_with nat_eq new prefix ≡ true
  pub whole : (more : List Placed) → AreItemsInOrder (items ++ more)
      → has ++ items_direct (items_from more new) prefix
      ≡ had ++ items_direct (items_from (items ++ more) old) prefix
