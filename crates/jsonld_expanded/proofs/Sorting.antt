-- A stable sort has one result.
use Rattle.std.proofs.Common.{◌≡◌, ℕ, suc, ◌<◌, ◌≤◌, Bool, true, false, cond, not, ◌&&◌, List, [], ◌∷◌, length, get_or, map, refl, sym, ap, ◌∙◌, arith, subst}
use Rattle.std.proofs.lemmas.List.Sorted.{IsPermutation-cons, IsPermutation-middle, IsPermutation-refl, IsPermutation-sym, IsPermutation-trans, sorted_far}
use Rattle.std.specs.Cmp.{IsStrictWeakOrder}
use Rattle.std.specs.List.{filter}
use Rattle.std.specs.List.Sorted.{IsPermutation, IsSortedBy, IsStableBy, ties}
use Rattle.jsonld_expanded.specs.Sorted.{insert_sorted, sorted}

true_is_not_false : {P : Type 0} (b : Bool) → b ≡ true → b ≡ false → P
true_is_not_false b t f = absurd cc

module _ {X : Type 0} (below : X → X → Bool) where
  -- no element of the list is below x
  abbrev pub NoneBelow : X → List X → Type 0
  NoneBelow x [] = Unit {0}
  NoneBelow x (y ∷ ys) = (below y x ≡ false) × NoneBelow x ys

  -- no element is below one before it
  abbrev pub Ascends : List X → Type 0
  Ascends [] = Unit {0}
  Ascends (x ∷ xs) = NoneBelow x xs × Ascends xs

  insert_by : (x y : X) (ys : List X) (b : Bool) → below y x ≡ b → insert_sorted below x (y ∷ ys) ≡ cond b (y ∷ insert_sorted below x ys) (x ∷ y ∷ ys)
  unfolding insert_sorted
  insert_by x y ys b e = ap (λ c. cond c (y ∷ insert_sorted below x ys) (x ∷ y ∷ ys)) e

  -- ---- the same elements

  swapped : (x y : X) (ys : List X) → IsPermutation (x ∷ y ∷ ys) (y ∷ x ∷ ys)
  swapped x y ys = IsPermutation-sym (y ∷ x ∷ ys) (x ∷ y ∷ ys) (IsPermutation-middle (y ∷ []) x ys)

  pub insert_moves : (x : X) (ys : List X) → IsPermutation (x ∷ ys) (insert_sorted below x ys)
  unfolding insert_sorted
  insert_moves x [] = IsPermutation-refl (x ∷ [])
  insert_moves x (y ∷ ys) = by_test (below y x) refl (insert_moves x ys)
    where
      by_test : (b : Bool) → below y x ≡ b → IsPermutation (x ∷ ys) (insert_sorted below x ys) → IsPermutation (x ∷ y ∷ ys) (insert_sorted below x (y ∷ ys))
      by_test true e more = subst (IsPermutation (x ∷ y ∷ ys)) (sym (insert_by x y ys true e))
          (IsPermutation-trans (x ∷ y ∷ ys) (y ∷ x ∷ ys) (y ∷ insert_sorted below x ys) (swapped x y ys)
          (IsPermutation-cons y (x ∷ ys) (insert_sorted below x ys) more))
      by_test false e more = subst (IsPermutation (x ∷ y ∷ ys)) (sym (insert_by x y ys false e)) (IsPermutation-refl (x ∷ y ∷ ys))

  pub sorted_moves : (xs : List X) → IsPermutation xs (sorted below xs)
  unfolding sorted
  sorted_moves [] = IsPermutation-refl []
  sorted_moves (x ∷ xs) = IsPermutation-trans (x ∷ xs) (x ∷ sorted below xs) (insert_sorted below x (sorted below xs))
      (IsPermutation-cons x xs (sorted below xs) (sorted_moves xs)) (insert_moves x (sorted below xs))

  -- ---- in order

  module _ (o : IsStrictWeakOrder below) where
    itself : (x : X) → below x x ≡ false
    itself x = by_test (below x x) refl
      where
        by_test : (b : Bool) → below x x ≡ b → below x x ≡ false
        by_test true e = o.one_way x x e
        by_test false e = e

    none_further : (x y : X) (zs : List X) → below y x ≡ false → NoneBelow y zs → NoneBelow x zs
    none_further x y [] e n = tt
    none_further x y (z ∷ zs) e n = (o.chain z y x n.0 e, none_further x y zs e n.1)

    none_inserted : (x y : X) (zs : List X) → below x y ≡ false → NoneBelow y zs → NoneBelow y (insert_sorted below x zs)
    unfolding insert_sorted
    none_inserted x y [] e n = (e, tt)
    none_inserted x y (z ∷ zs) e n = by_test (below z x) refl (none_inserted x y zs e n.1)
      where
        by_test : (b : Bool) → below z x ≡ b → NoneBelow y (insert_sorted below x zs) → NoneBelow y (insert_sorted below x (z ∷ zs))
        by_test true t more = subst (NoneBelow y) (sym (insert_by x z zs true t)) (n.0, more)
        by_test false t more = subst (NoneBelow y) (sym (insert_by x z zs false t)) (e, n)

    insert_ascends : (x : X) (ys : List X) → Ascends ys → Ascends (insert_sorted below x ys)
    unfolding insert_sorted
    insert_ascends x [] a = (tt, tt)
    insert_ascends x (y ∷ ys) a = by_test (below y x) refl (insert_ascends x ys a.1)
      where
        by_test : (b : Bool) → below y x ≡ b → Ascends (insert_sorted below x ys) → Ascends (insert_sorted below x (y ∷ ys))
        by_test true t more = subst Ascends (sym (insert_by x y ys true t)) (none_inserted x y ys (o.one_way y x t) a.0, more)
        by_test false t more = subst Ascends (sym (insert_by x y ys false t)) ((t, none_further x y ys t a.0), a)

    pub sorted_ascends : (xs : List X) → Ascends (sorted below xs)
    unfolding sorted
    sorted_ascends [] = tt
    sorted_ascends (x ∷ xs) = insert_ascends x (sorted below xs) (sorted_ascends xs)

    -- ---- elements that tie keep their order

    -- what passes the test, from the first element on
    picked : (p : X → Bool) (x : X) (xs : List X) (b : Bool) → p x ≡ b → filter p (x ∷ xs) ≡ cond b (x ∷ filter p xs) (filter p xs)
    picked p x xs b e = ap (λ c. cond c (x ∷ filter p xs) (filter p xs)) e

    not_both : (z x y : X) → below y x ≡ true → ties below z x ≡ true → ties below z y ≡ false
    not_both z x y t s = by_test (below z x) (below x z) (below y z) refl refl refl
      where
        by_test : (a b c : Bool) → below z x ≡ a → below x z ≡ b → below y z ≡ c → ties below z y ≡ false
        by_test true b c ea eb ec = true_is_not_false (ties below z x) s (ap (λ d. not d && not (below x z)) ea)
        by_test false true c ea eb ec = true_is_not_false (ties below z x) s (ap (λ d. not d && not (below x z)) ea ∙ ap (λ d. not d) eb)
        by_test false false true ea eb ec = by_last (below z y) refl ec
          where
            by_last : (d : Bool) → below z y ≡ d → below y z ≡ true → ties below z y ≡ false
            by_last true ed ec = ap (λ d. not d && not (below y z)) ed
            by_last false ed ec = ap (λ d. not d && not (below y z)) ed ∙ ap (λ d. not d) ec
        by_test false false false ea eb ec = true_is_not_false (below y x) t (o.chain y z x ec ea)

    filter_inserted : (z x : X) (ys : List X) → filter (ties below z) (insert_sorted below x ys) ≡ filter (ties below z) (x ∷ ys)
    unfolding insert_sorted
    filter_inserted z x [] = refl
    filter_inserted z x (y ∷ ys) = by_test (below y x) refl (filter_inserted z x ys)
      where
        step : (a b : Bool) → filter (ties below z) (insert_sorted below x ys) ≡ filter (ties below z) (x ∷ ys) → ties below z x ≡ a → ties below z y ≡ b → below y x ≡ true → filter (ties below z) (y ∷ insert_sorted below x ys) ≡ filter (ties below z) (x ∷ y ∷ ys)
        step true b more ea eb t =
            let no = not_both z x y t ea in
            picked (ties below z) y (insert_sorted below x ys) false no ∙ more ∙ picked (ties below z) x ys true ea
            ∙ ap (λ l. x ∷ l) (sym (picked (ties below z) y ys false no)) ∙ sym (picked (ties below z) x (y ∷ ys) true ea)
        step false true more ea eb t =
            picked (ties below z) y (insert_sorted below x ys) true eb ∙ ap (λ l. y ∷ l) (more ∙ picked (ties below z) x ys false ea)
            ∙ sym (picked (ties below z) y ys true eb) ∙ sym (picked (ties below z) x (y ∷ ys) false ea)
        step false false more ea eb t =
            picked (ties below z) y (insert_sorted below x ys) false eb ∙ more ∙ picked (ties below z) x ys false ea
            ∙ sym (picked (ties below z) y ys false eb) ∙ sym (picked (ties below z) x (y ∷ ys) false ea)

        by_test : (b : Bool) → below y x ≡ b → filter (ties below z) (insert_sorted below x ys) ≡ filter (ties below z) (x ∷ ys) → filter (ties below z) (insert_sorted below x (y ∷ ys)) ≡ filter (ties below z) (x ∷ y ∷ ys)
        by_test true t more = ap (filter (ties below z)) (insert_by x y ys true t) ∙ step (ties below z x) (ties below z y) more refl refl t
        by_test false t more = ap (filter (ties below z)) (insert_by x y ys false t)

    same_filter : (p : X → Bool) (x : X) (xs ys : List X) → filter p xs ≡ filter p ys → filter p (x ∷ xs) ≡ filter p (x ∷ ys)
    same_filter p x xs ys e = ap (λ l. cond (p x) (x ∷ l) l) e

    pub sorted_filter : (z : X) (xs : List X) → filter (ties below z) (sorted below xs) ≡ filter (ties below z) xs
    unfolding sorted
    sorted_filter z [] = refl
    sorted_filter z (x ∷ xs) = filter_inserted z x (sorted below xs) ∙ same_filter (ties below z) x (sorted below xs) xs (sorted_filter z xs)

    -- ---- one result

    tie_itself : (x : X) → ties below x x ≡ true
    tie_itself x = ap (λ d. not d && not d) (itself x)

    cons_not_nil : {P : Type 0} (x : X) (xs : List X) → x ∷ xs ≡ [] → P
    cons_not_nil x xs e = absurd cc

    -- what is above x doesn't tie with it
    none_tie : (x y : X) (ys : List X) → below x y ≡ true → NoneBelow y ys → filter (ties below x) (y ∷ ys) ≡ []
    none_tie x y ys t n = picked (ties below x) y ys false (apart y t) ∙ rest ys n
      where
        apart : (w : X) → below x w ≡ true → ties below x w ≡ false
        apart w e = ap (λ d. not d && not (below w x)) e

        above : (w : X) → below w y ≡ false → below x w ≡ true
        above w e = by_test (below x w) refl
          where
            by_test : (b : Bool) → below x w ≡ b → below x w ≡ true
            by_test true f = f
            by_test false f = true_is_not_false (below x y) t (o.chain x w y f e)

        rest : (zs : List X) → NoneBelow y zs → filter (ties below x) zs ≡ []
        rest [] m = refl
        rest (w ∷ zs) m = picked (ties below x) w zs false (apart w (above w m.0)) ∙ rest zs m.1

    first_of : (x y : X) (xs ys : List X) → x ∷ xs ≡ y ∷ ys → x ≡ y
    first_of x y xs ys e = cc

    rest_of : (x y : X) (xs ys : List X) → x ∷ xs ≡ y ∷ ys → xs ≡ ys
    rest_of x y xs ys e = cc

    drop_same : (p : X → Bool) (x : X) (xs ys : List X) (b : Bool) → p x ≡ b → filter p (x ∷ xs) ≡ filter p (x ∷ ys) → filter p xs ≡ filter p ys
    drop_same p x xs ys true t e = rest_of x x (filter p xs) (filter p ys) (sym (picked p x xs true t) ∙ e ∙ picked p x ys true t)
    drop_same p x xs ys false t e = sym (picked p x xs false t) ∙ e ∙ picked p x ys false t

    same_first : (x y : X) (xs ys : List X) → NoneBelow x xs → NoneBelow y ys → ((z : X) → filter (ties below z) (x ∷ xs) ≡ filter (ties below z) (y ∷ ys)) → x ≡ y
    same_first x y xs ys n m e = by_test (below x y) (below y x) refl refl
      where
        by_test : (a b : Bool) → below x y ≡ a → below y x ≡ b → x ≡ y
        by_test true b ea eb = cons_not_nil x (filter (ties below x) xs) (sym (picked (ties below x) x xs true (tie_itself x)) ∙ e x ∙ none_tie x y ys ea m)
        by_test false true ea eb = cons_not_nil y (filter (ties below y) ys) (sym (picked (ties below y) y ys true (tie_itself y)) ∙ sym (e y) ∙ none_tie y x xs eb n)
        by_test false false ea eb =
            let tie : ties below x y ≡ true = ap (λ d. not d && not (below y x)) ea ∙ ap (λ d. not d) eb in
            first_of x y (filter (ties below x) xs) (filter (ties below x) ys) (sym (picked (ties below x) x xs true (tie_itself x)) ∙ e x ∙ picked (ties below x) y ys true tie)

    one_order : (xs ys : List X) → Ascends xs → Ascends ys → ((z : X) → filter (ties below z) xs ≡ filter (ties below z) ys) → xs ≡ ys
    one_order [] [] a b e = refl
    one_order [] (y ∷ ys) a b e = cons_not_nil y (filter (ties below y) ys) (sym (picked (ties below y) y ys true (tie_itself y)) ∙ sym (e y))
    one_order (x ∷ xs) [] a b e = cons_not_nil x (filter (ties below x) xs) (sym (picked (ties below x) x xs true (tie_itself x)) ∙ e x)
    one_order (x ∷ xs) (y ∷ ys) a b e =
        let first = same_first x y xs ys a.0 b.0 e in
        let rest = one_order xs ys a.1 b.1 (λ z. drop_same (ties below z) x xs ys (ties below z x) refl (e z ∙ ap (λ w. filter (ties below z) (w ∷ ys)) (sym first))) in
        ap (λ l. x ∷ l) rest ∙ ap (λ w. w ∷ ys) first

    none_from : (x : X) (ys : List X) → ((j : ℕ) (d : X) → j < length ys → below (get_or ys j d) x ≡ false) → NoneBelow x ys
    none_from x [] h = tt
    none_from x (y ∷ ys) h = (h 0 x (omega arith), none_from x ys (λ j d l. h (suc j) d (omega (arith, l))))

    ascends_from : (xs : List X) → ((i j : ℕ) (d : X) → i ≤ j → j < length xs → below (get_or xs j d) (get_or xs i d) ≡ false) → Ascends xs
    ascends_from [] h = tt
    ascends_from (x ∷ xs) h = (
      none_from x xs (λ j d l. h 0 (suc j) d (omega arith) (omega (arith, l))),
      ascends_from xs (λ i j d l m. h (suc i) (suc j) d (omega (arith, l)) (omega (arith, m))),
    )

    -- what a stable sort gives
    pub sorted_is : (xs ys : List X) → IsSortedBy below ys → IsStableBy below xs ys → ys ≡ sorted below xs
    sorted_is xs ys up stable = one_order ys (sorted below xs) (ascends_from ys (sorted_far below o ys up)) (sorted_ascends xs) (λ z. stable z ∙ sym (sorted_filter z xs))

-- a sort by what a function gives
module _ {A X : Type 0} (f : A → X) (below : X → X → Bool) where
  by_f : A → A → Bool
  by_f a b = below (f a) (f b)

  map_inserted : (a : A) (bs : List A) → map f (insert_sorted (λ b c. below (f b) (f c)) a bs) ≡ insert_sorted below (f a) (map f bs)
  unfolding insert_sorted
  map_inserted a [] = refl
  map_inserted a (b ∷ bs) = by_test (below (f b) (f a)) refl (map_inserted a bs)
    where
      by_test : (t : Bool) → below (f b) (f a) ≡ t → map f (insert_sorted (λ b c. below (f b) (f c)) a bs) ≡ insert_sorted below (f a) (map f bs) → map f (insert_sorted (λ b c. below (f b) (f c)) a (b ∷ bs)) ≡ insert_sorted below (f a) (map f (b ∷ bs))
      by_test true e more = ap (map f) (insert_by (λ b c. below (f b) (f c)) a b bs true e) ∙ ap (λ l. f b ∷ l) more ∙ sym (insert_by below (f a) (f b) (map f bs) true e)
      by_test false e more = ap (map f) (insert_by (λ b c. below (f b) (f c)) a b bs false e) ∙ sym (insert_by below (f a) (f b) (map f bs) false e)

  pub map_sorted : (bs : List A) → map f (sorted (λ b c. below (f b) (f c)) bs) ≡ sorted below (map f bs)
  unfolding sorted
  map_sorted [] = refl
  map_sorted (a ∷ bs) = map_inserted a (sorted (λ b c. below (f b) (f c)) bs) ∙ ap (insert_sorted below (f a)) (map_sorted bs)
