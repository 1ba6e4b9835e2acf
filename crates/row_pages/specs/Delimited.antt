-- Items below a text, without those that have a slash in what follows it but at its end: a listing
-- by a prefix and a delimiter.
use Rattle.std.specs.Prelude.{ℕ, Bool, ◌&&◌, List, [], ◌∷◌, length, drop, filter, bytes_eq, nat_eq}
use Rattle.std.specs.Prelude.{if◌then◌else◌}
use Rattle.std.specs.List.{starts_with}
use Rattle.iri_ref.specs.Characters.{is_slash}
use Rattle.row_pages.specs.Items.{Placed}

-- The text up to its first slash, the slash included; all of it where it has none.
abbrev pub first_part : List ℕ → List ℕ
first_part [] = []
first_part (c ∷ cs) = c ∷ (if is_slash c then [] else first_part cs)

-- Does the text have a slash at most at its end?
abbrev pub is_one_part : List ℕ → Bool
is_one_part text = bytes_eq (first_part text) text

-- Does the path begin with the text, and what follows has a slash at most at its end?
abbrev pub is_direct : List ℕ → List ℕ → Bool
is_direct prefix path = starts_with nat_eq path prefix && is_one_part (drop (length prefix) path)

-- The items directly below a text.
abbrev pub items_direct : List Placed → List ℕ → List Placed
items_direct items prefix = filter (λ item. is_direct prefix item.row.path) items
