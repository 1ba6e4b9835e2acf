-- The paths of items are those of rows.
use Rattle.std.proofs.Common.{◌≡◌, ℕ, true, List, [], ◌∷◌, map, filter, refl, sym, ap, ◌∙◌, subst}
use Rattle.std.specs.Prelude.{nat_eq}
use Rattle.std.specs.List.{All, starts_with}
use Rattle.pod_command.specs.declared.row.Row.{Row}
use Rattle.pod_rows.specs.Pod.{is_row}
use Rattle.pod_rows.specs.RowLists.{paths_below}
use Rattle.pod_rows.proofs.Listed.{rows_are_taken}
use Rattle.row_pages.specs.Items.{Placed, items_below, path_of, rows_of}
use Rattle.pod_pages.proofs.Placing.{map_filter, row_of}

paths_of_rows : (items : List Placed) → map path_of items ≡ map (λ (r : Row). r.path) (rows_of items)
paths_of_rows [] = refl
paths_of_rows (i ∷ items) = ap (λ (ps : List (List ℕ)). i.row.path ∷ ps) (paths_of_rows items)

-- the paths that begin with a text
below_is : (items : List Placed) (text : List ℕ) → map path_of (items_below items text) ≡ paths_below (rows_of items) text
below_is items text =
    paths_of_rows (items_below items text)
    ∙ ap (map (λ (r : Row). r.path)) (map_filter row_of (λ (r : Row). starts_with nat_eq r.path text) items)

pub items_are_taken : (items : List Placed) (text : List ℕ) (paths : List (List ℕ)) → paths ≡ map path_of (items_below items text) → All (λ (p : List ℕ). is_row (rows_of items) p ≡ true) paths
items_are_taken items text paths e =
    subst (λ (ps : List (List ℕ)). All (λ (p : List ℕ). is_row (rows_of items) p ≡ true) ps) (sym (e ∙ below_is items text)) (rows_are_taken (rows_of items) text)
