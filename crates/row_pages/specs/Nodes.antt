-- What each page and each book has.
use Rattle.std.specs.Prelude.{◌≡◌, ℕ, ◌<◌, ◌≤◌, List, length}
use Rattle.std.specs.List.{AllByRecursion}
use Rattle.row_pages.specs.Items.{Placed, AreItemsInOrder}
use Rattle.row_pages.specs.Parts.{all_items, book_items}
use Rattle.row_pages.specs.declared.limits.TheConstants.{PAGE_LIMIT}

-- Each part has an item.
abbrev pub HaveItems : {X : Type 0} → (X → List Placed) → List X → Type 0
HaveItems items parts = AllByRecursion (λ part. 0 < length (items part)) parts

-- From one part to as many as a page may have, and each has an item.
pub record IsNode {X : Type 0} (items : X → List Placed) (parts : List X) : Type 0 where
  pub some : 0 < length parts
  pub few : length parts ≤ PAGE_LIMIT
  pub each : HaveItems items parts

-- Each book has an item, and the items are in order; their number is kept.
pub record IsShelf (books : List (List (List Placed))) (len : ℕ) : Type 0 where
  pub count : len ≡ length (all_items books)
  pub order : AreItemsInOrder (all_items books)
  pub each : HaveItems book_items books
