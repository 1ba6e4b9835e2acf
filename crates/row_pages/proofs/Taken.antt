-- A part that is taken out of its place, and what is put back there.
use Rattle.std.proofs.Common.{◌≡◌, ◌+◌, ◌-◌, ◌<◌, ◌≤◌, ℕ, suc, true, List, [], ◌∷◌, ◌++◌, length, get_or, take, drop, take-append-drop, drop-cons, Option, Some, sym, ap, ◌∙◌, arith}
use Rattle.std.specs.List.{flat_map}
use Rattle.std.specs.Option.{option_to_list}
use Rattle.std.proofs.lemmas.List.{length-take-le, take_at, drop_at}
use Rattle.std.proofs.Math.Numerals.{suc-eq-add-one}
use Rattle.row_pages.specs.Borders.{first_at, starts_by, starts_after, AreBefore, AreAfter}
use Rattle.row_pages.specs.Items.{Placed, AreItemsInOrder}
use Rattle.row_pages.proofs.Around.{place_before, place_after}

-- ---- the parts around a place

at_place : {X : Type 0} (parts : List X) (place : ℕ) (d : X) → place < length parts → parts ≡ take place parts ++ get_or parts place d ∷ drop (place + 1) parts
at_place parts place d within =
    sym (take-append-drop place parts)
    ∙ ap (λ ys. take place parts ++ ys) (drop-cons parts place d within ∙ ap (λ n. get_or parts place d ∷ drop n parts) (suc-eq-add-one place))

pub taken_whole : {X : Type 0} (parts : List X) (place : ℕ) (part : X) → place < length parts → part ≡ get_or parts place part → parts ≡ take place parts ++ part ∷ drop (place + 1) parts
taken_whole parts place part within value =
    at_place parts place part within ∙ ap (λ x. take place parts ++ x ∷ drop (place + 1) parts) (sym value)

before_length : {X : Type 0} (parts : List X) (place count : ℕ) → place < length parts → place ≡ count - 1 → length (take place parts) ≡ count - 1
before_length parts place count within e = length-take-le place parts (omega (arith, within)) ∙ e

pub before_taken : {X : Type 0} (items : X → List Placed) (parts : List X) (count place : ℕ) (p : List ℕ) → place ≡ count - 1 → place < length parts → AreItemsInOrder (flat_map items parts)
    → (0 < count → starts_by p (first_at items parts (count - 1)) ≡ true) → AreBefore p (flat_map items (take place parts))
before_taken items [] count place p e within o h = absurd (omega (arith, within))
before_taken items (x ∷ xs) count place p e within o h =
    place_before items (x ∷ xs) (take place (x ∷ xs)) (drop (place + 1) (x ∷ xs)) (get_or (x ∷ xs) place x) count p
    (at_place (x ∷ xs) place x within) (before_length (x ∷ xs) place count within e) o h

pub after_taken : {X : Type 0} (items : X → List Placed) (parts : List X) (count place : ℕ) (p : List ℕ) → place ≡ count - 1 → place < length parts → AreItemsInOrder (flat_map items parts)
    → (count < length parts → starts_after p (first_at items parts count) ≡ true) → AreAfter p (flat_map items (drop (place + 1) parts))
after_taken items [] count place p e within o h = absurd (omega (arith, within))
after_taken items (x ∷ xs) count place p e within o h =
    place_after items (x ∷ xs) (take place (x ∷ xs)) (drop (place + 1) (x ∷ xs)) (get_or (x ∷ xs) place x) count p
    (at_place (x ∷ xs) place x within) (before_length (x ∷ xs) place count within e) o h

-- ---- what is put back

again_before : {X : Type 0} (xs ys : List X) (n : ℕ) → n ≤ length xs → take n (take n xs ++ ys) ≡ take n xs
again_before xs ys n within = take_at (take n xs) ys n (length-take-le n xs within)

again_after : {X : Type 0} (xs ys : List X) (n : ℕ) → n ≤ length xs → drop n (take n xs ++ ys) ≡ ys
again_after xs ys n within = drop_at (take n xs) ys n (length-take-le n xs within)

-- one more element before what follows the place
pub put_before : {X : Type 0} (old mid new ys : List X) (place : ℕ) (part : X) → place ≤ length old → mid ≡ take place old ++ ys → new ≡ take place mid ++ part ∷ drop place mid
    → new ≡ take place old ++ part ∷ ys
put_before old mid new ys place part within m n =
    n ∙ ap (λ xs. take place xs ++ part ∷ drop place xs) m
    ∙ ap (λ xs. xs ++ part ∷ drop place (take place old ++ ys)) (again_before old ys place within)
    ∙ ap (λ xs. take place old ++ part ∷ xs) (again_after old ys place within)

pub put_again : {X : Type 0} (old mid new : List X) (place : ℕ) (part : X) (more : Option X) → place < length old → mid ≡ take place old ++ drop (suc place) old
    → new ≡ take place mid ++ (part ∷ (option_to_list more ++ drop place mid)) → new ≡ take place old ++ (option_to_list (Some part) ++ (option_to_list more ++ drop (place + 1) old))
put_again old mid new place part more within m n =
    n ∙ ap (λ xs. take place xs ++ (part ∷ (option_to_list more ++ drop place xs))) (m ∙ ap (λ k. take place old ++ drop k old) (suc-eq-add-one place))
    ∙ ap (λ xs. xs ++ (part ∷ (option_to_list more ++ drop place (take place old ++ drop (place + 1) old)))) (again_before old (drop (place + 1) old) place (omega (arith, within)))
    ∙ ap (λ xs. take place old ++ (part ∷ (option_to_list more ++ xs))) (again_after old (drop (place + 1) old) place (omega (arith, within)))
