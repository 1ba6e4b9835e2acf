-- Which texts of a case are rows.
use Rattle.std.specs.Prelude.{ℕ, Bool, bytes_eq, List}
use Rattle.std.specs.Borrow.{Bor}
use Rattle.std.specs.List.{list_any}

abbrev pub is_row_of : List (Bor (List ℕ)) → List ℕ → Bool
is_row_of texts text = list_any (λ t. bytes_eq t.now text) texts
