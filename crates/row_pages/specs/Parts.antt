-- The items of parts: of pages, of books of pages, and of what may not be there.
use Rattle.std.specs.Prelude.{List, [], ◌∷◌, ◌++◌, Option, Some, None}
use Rattle.std.specs.List.{flat_map}
use Rattle.row_pages.specs.Items.{Placed}

abbrev pub items_if : {X : Type 0} → (X → List Placed) → Option X → List Placed
items_if items None = []
items_if items (Some part) = items part

-- The items of a part, and of another one, if there is one.
abbrev pub items_of_both : {X : Type 0} → (X → List Placed) → X → Option X → List Placed
items_of_both items part more = items part ++ items_if items more

-- The items of books of pages, one book after another.
abbrev pub page_items : List Placed → List Placed
page_items page = flat_map (λ item. item ∷ []) page

abbrev pub book_items : List (List Placed) → List Placed
book_items book = flat_map page_items book

abbrev pub all_items : List (List (List Placed)) → List Placed
all_items books = flat_map book_items books
