-- One more step of a loop.
use Rattle.std.proofs.Common.{◌≡◌, ◌+◌, ◌<◌, ℕ, List, [], ◌∷◌, ◌++◌, length, take, drop, get_or, Option, Some, None, refl, sym, ap, ◌∙◌}
use Rattle.std.specs.Prelude.{option_to_list}
use Rattle.std.specs.List.{filter_map, cons_option}
use Rattle.std.proofs.lemmas.List.{take_more, take-append-drop}
use Rattle.pod_command.specs.declared.edit.Edit.{Edit}
use Rattle.pod_command.specs.declared.row.Row.{Row}
use Rattle.pod_rows.specs.Apply.{edited_if, after_edits}

cons_none : {Y : Type 0} (o : Option Y) → cons_option o [] ≡ option_to_list o
cons_none None = refl
cons_none (Some y) = refl

cons_append : {Y : Type 0} (o : Option Y) (ys zs : List Y) → cons_option o (ys ++ zs) ≡ cons_option o ys ++ zs
cons_append None ys zs = refl
cons_append (Some y) ys zs = refl

filter_map_end : {X Y : Type 0} (f : X → Option Y) (xs : List X) (x : X) → filter_map f (xs ++ x ∷ []) ≡ filter_map f xs ++ option_to_list (f x)
filter_map_end f [] x = cons_none (f x)
filter_map_end f (z ∷ zs) x = ap (cons_option (f z)) (filter_map_end f zs x) ∙ cons_append (f z) (filter_map f zs) (option_to_list (f x))

pub filter_map_more : {X Y : Type 0} (f : X → Option Y) (xs : List X) (i : ℕ) (d : X) → i < length xs → filter_map f (take (i + 1) xs) ≡ filter_map f (take i xs) ++ option_to_list (f (get_or xs i d))
filter_map_more f xs i d h = ap (filter_map f) (take_more xs i d h) ∙ filter_map_end f (take i xs) (get_or xs i d)

pub edits_append : (o : Option (List Row)) (xs ys : List Edit) → after_edits o (xs ++ ys) ≡ after_edits (after_edits o xs) ys
edits_append o [] ys = refl
edits_append o (x ∷ xs) ys = edits_append (edited_if o x) xs ys

pub edits_none : (xs : List Edit) → after_edits None xs ≡ None
edits_none [] = refl
edits_none (x ∷ xs) = edits_none xs

pub edits_more : (o : Option (List Row)) (xs : List Edit) (i : ℕ) (d : Edit) → i < length xs → after_edits o (take (i + 1) xs) ≡ edited_if (after_edits o (take i xs)) (get_or xs i d)
edits_more o xs i d h = ap (after_edits o) (take_more xs i d h) ∙ edits_append o (take i xs) (get_or xs i d ∷ [])

pub edits_stopped : (o : Option (List Row)) (xs : List Edit) (i : ℕ) → after_edits o (take i xs) ≡ None → after_edits o xs ≡ None
edits_stopped o xs i h =
    ap (after_edits o) (sym (take-append-drop i xs)) ∙ edits_append o (take i xs) (drop i xs) ∙ ap (λ r. after_edits r (drop i xs)) h ∙ edits_none (drop i xs)
