-- The paths of rows are rows.
use Rattle.std.proofs.Common.{◌≡◌, ℕ, Bool, true, false, cond, List, [], ◌∷◌, filter, map, refl, sym, ap, ◌∙◌, subst, Some}
use Rattle.std.specs.Prelude.{bytes_eq, is_some, nat_eq}
use Rattle.std.specs.List.{All, AllByRecursion, find, starts_with}
use Rattle.std.proofs.lemmas.List.Elements.{All-cons, All-nil}
use Rattle.pod_command.specs.declared.row.Row.{Row}
use Rattle.pod_rows.specs.Pod.{is_at, is_row}
use Rattle.pod_rows.specs.RowLists.{paths_below}
use Rattle.pod_rows.proofs.OrderedRows.{itself}

-- a row more
pub still_row : (r : Row) (rows : List Row) (p : List ℕ) → is_row rows p ≡ true → is_row (r ∷ rows) p ≡ true
still_row r rows p h = by_test (is_at p r)
  where
    by_test : (b : Bool) → is_some (cond b (Some r) (find (is_at p) rows)) ≡ true
    by_test true = refl
    by_test false = h

pub own_row : (r : Row) (rows : List Row) → is_row (r ∷ rows) r.path ≡ true
own_row r rows = ap (λ (b : Bool). is_some (cond b (Some r) (find (is_at r.path) rows))) (itself r.path)

-- each of some rows is one of all of them
below_are : (test : List ℕ → Bool) (rows : List Row) (P : List ℕ → Type 0) → AllByRecursion (λ (r : Row). P r.path) rows → All P (map (λ (r : Row). r.path) (filter (λ (r : Row). test r.path) rows))
below_are test [] P h = All-nil P
below_are test (r ∷ rows) P h = by_test (test r.path) (below_are test rows P h.1)
  where
    by_test : (b : Bool) → All P (map (λ (x : Row). x.path) (filter (λ (x : Row). test x.path) rows)) → All P (map (λ (x : Row). x.path) (cond b (r ∷ filter (λ (x : Row). test x.path) rows) (filter (λ (x : Row). test x.path) rows)))
    by_test true more = All-cons P r.path (map (λ (x : Row). x.path) (filter (λ (x : Row). test x.path) rows)) h.0 more
    by_test false more = more

all_weaker : (P Q : List ℕ → Type 0) (rows : List Row) → ((p : List ℕ) → P p → Q p) → AllByRecursion (λ (r : Row). P r.path) rows → AllByRecursion (λ (r : Row). Q r.path) rows
all_weaker P Q [] f h = tt
all_weaker P Q (r ∷ rows) f h = (f r.path h.0, all_weaker P Q rows f h.1)

all_rows : (rows : List Row) → AllByRecursion (λ (r : Row). is_row rows r.path ≡ true) rows
all_rows [] = tt
all_rows (r ∷ rows) = (own_row r rows, all_weaker (λ p. is_row rows p ≡ true) (λ p. is_row (r ∷ rows) p ≡ true) rows (still_row r rows) (all_rows rows))

pub rows_are_taken : (rows : List Row) (text : List ℕ) → All (λ (p : List ℕ). is_row rows p ≡ true) (paths_below rows text)
rows_are_taken rows text = below_are (λ p. starts_with nat_eq p text) rows (λ p. is_row rows p ≡ true) (all_rows rows)
