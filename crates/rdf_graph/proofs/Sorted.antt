-- Lists in strict order, for any total order in which only equal things compare as equal.
use Rattle.std.proofs.Common.{ℕ, suc, ◌+◌, ◌<◌, ◌≤◌, ◌≡◌, ◌≢◌, ◌↔◌, List, [], ◌∷◌, ◌++◌, Result, Ok, Err, Some, length, take, drop, get_or, refl, sym, ap, ◌∙◌, subst, arith, ⊎_elim}
use Rattle.std.specs.Prelude.{slice_get, MatchResult}
use Rattle.std.specs.List.{Contains, All, insert, remove}
use Rattle.std.specs.List.Sorted.{IsStrictlySortedBy, IsBinarySearchResult, IsSearchInRange, IsNonDecreasingBy}
use Rattle.std.specs.Ordering.{ordering_index, ordering_reverse, is_lt}
use Rattle.std.specs.Cmp.{IsTotalOrder}
use Rattle.std.specs.declared.cmp.Ordering.{Ordering}
use Rattle.std.specs.declared.cmp.Ordering.TheVariants.{Equal, Less, Greater}
use Rattle.std.proofs.lemmas.Cmp.{tied_itself}
use Rattle.std.proofs.lemmas.List.{take-append-drop}
use Rattle.std.proofs.lemmas.List.Elements.{All-append, All-from_recursion, recursion_from_All, All-contains, All-cons, All-head, All-tail, Contains-append_left, Contains-append_right, Contains-append_cases}
use Rattle.std.proofs.lemmas.List.Sorted.{searchable_from_sorted}
use Rattle.std.proofs.lemmas.Option.{slice_get-get_or}
use Rattle.std.proofs.Math.Seq.{drop-cons}
use Rattle.std.proofs.lemmas.Map.Keys.{Less-from_sorted}
use Rattle.std.proofs.lemmas.Map.Lookups.{CmpEqualImpliesEq}
use Rattle.rdf_graph.proofs.Members.{contains_cases, contains_here, contains_there, contains_none, contains_split, contains_take, contains_drop, All-left, All-right, All-take_within, All-drop_within}

module _ {K : Type 0} (R : K → K → Ordering) where
  pub sorted_nil : IsStrictlySortedBy R []
  unfolding IsStrictlySortedBy
  sorted_nil = tt

  pub sorted_cons : (x : K) (xs : List K) → All (λ y. R x y ≡ Less) xs → IsStrictlySortedBy R xs → IsStrictlySortedBy R (x ∷ xs)
  unfolding IsStrictlySortedBy
  sorted_cons x xs a s = (recursion_from_All _ xs a, s)

  pub sorted_first : (x : K) (xs : List K) → IsStrictlySortedBy R (x ∷ xs) → All (λ y. R x y ≡ Less) xs
  unfolding IsStrictlySortedBy
  sorted_first x xs s = All-from_recursion _ xs s.0

  pub sorted_rest : (x : K) (xs : List K) → IsStrictlySortedBy R (x ∷ xs) → IsStrictlySortedBy R xs
  unfolding IsStrictlySortedBy
  sorted_rest x xs s = s.1

  -- two lists in order, the first below the second
  pub sorted_append : (xs ys : List K) → IsStrictlySortedBy R xs → IsStrictlySortedBy R ys → All (λ x. All (λ y. R x y ≡ Less) ys) xs → IsStrictlySortedBy R (xs ++ ys)
  sorted_append [] ys s t c = t
  sorted_append (x ∷ xs) ys s t c =
      sorted_cons x (xs ++ ys) (All-append (λ y. R x y ≡ Less) xs ys (sorted_first x xs s) (All-head (λ z. All (λ y. R z y ≡ Less) ys) x xs c))
      (sorted_append xs ys (sorted_rest x xs s) t (All-tail (λ z. All (λ y. R z y ≡ Less) ys) x xs c))

  pub sorted_left : (xs ys : List K) → IsStrictlySortedBy R (xs ++ ys) → IsStrictlySortedBy R xs
  sorted_left [] ys s = sorted_nil
  sorted_left (x ∷ xs) ys s =
      sorted_cons x xs (All-left (λ y. R x y ≡ Less) xs ys (sorted_first x (xs ++ ys) s)) (sorted_left xs ys (sorted_rest x (xs ++ ys) s))

  pub sorted_right : (xs ys : List K) → IsStrictlySortedBy R (xs ++ ys) → IsStrictlySortedBy R ys
  sorted_right [] ys s = s
  sorted_right (x ∷ xs) ys s = sorted_right xs ys (sorted_rest x (xs ++ ys) s)

  pub sorted_cross : (xs ys : List K) → IsStrictlySortedBy R (xs ++ ys) → All (λ x. All (λ y. R x y ≡ Less) ys) xs
  sorted_cross [] ys s = λ k d l. absurd (omega (arith, l))
  sorted_cross (x ∷ xs) ys s = All-cons (λ z. All (λ y. R z y ≡ Less) ys) x xs (All-right (λ y. R x y ≡ Less) xs ys (sorted_first x (xs ++ ys) s)) (sorted_cross xs ys (sorted_rest x (xs ++ ys) s))

  pub sorted_take : (i : ℕ) (xs : List K) → IsStrictlySortedBy R xs → IsStrictlySortedBy R (take i xs)
  sorted_take i xs s = sorted_left (take i xs) (drop i xs) (subst (IsStrictlySortedBy R) (sym (take-append-drop i xs)) s)

  pub sorted_drop : (i : ℕ) (xs : List K) → IsStrictlySortedBy R xs → IsStrictlySortedBy R (drop i xs)
  sorted_drop i xs s = sorted_right (take i xs) (drop i xs) (subst (IsStrictlySortedBy R) (sym (take-append-drop i xs)) s)

module _ {K : Type 0} {R : K → K → Ordering} (o : IsTotalOrder R) (exact : CmpEqualImpliesEq R) where
  -- nothing is below itself
  pub below_itself : (x : K) → R x x ≡ Less → ⊥
  below_itself x h = let e : R x x ≡ Equal = tied_itself o x in absurd cc

  pub above_is_below : (x y : K) → R x y ≡ Greater → R y x ≡ Less
  above_is_below x y h = turned (R y x) (sym h ∙ o.antisymm x y)
    where
      turned : (r : Ordering) → Greater ≡ ordering_reverse r → r ≡ Less
      turned Less e = refl
      turned Equal e = absurd cc
      turned Greater e = absurd cc

  pub below_is_above : (x y : K) → R x y ≡ Less → R y x ≡ Greater
  below_is_above x y h = o.antisymm y x ∙ ap ordering_reverse h

  -- a member that a list in order has is in one of its places alone
  pub not_among : (x : K) (xs : List K) → All (λ y. R x y ≡ Less) xs → Contains xs x → ⊥
  not_among x xs a h = below_itself x (All-contains (λ y. R x y ≡ Less) xs x a h)

  pub not_among_below : (x : K) (xs : List K) → All (λ y. R y x ≡ Less) xs → Contains xs x → ⊥
  not_among_below x xs a h = below_itself x (All-contains (λ y. R y x ≡ Less) xs x a h)

  -- what is below and above what
  pub below_all : (x t : K) (ys : List K) → R x t ≡ Less → All (λ y. R t y ≡ Less) ys → All (λ y. R x y ≡ Less) ys
  below_all x t ys h a = λ k d l. o.trans x t (get_or ys k d) h (a k d l)

  -- t is in a list in order where the elements before are below it, and those after are above
  pub sorted_with : (xs : List K) (i : ℕ) (t : K) → IsStrictlySortedBy R xs → All (λ y. R y t ≡ Less) (take i xs) → All (λ y. R t y ≡ Less) (drop i xs) → IsStrictlySortedBy R (insert xs i t)
  sorted_with xs i t s before behind =
      let parts : IsStrictlySortedBy R (take i xs ++ drop i xs) = subst (IsStrictlySortedBy R) (sym (take-append-drop i xs)) s in
      sorted_append R (take i xs) (t ∷ drop i xs) (sorted_left R (take i xs) (drop i xs) parts)
      (sorted_cons R t (drop i xs) behind (sorted_right R (take i xs) (drop i xs) parts))
      (λ k d l. All-cons (λ y. R (get_or (take i xs) k d) y ≡ Less) t (drop i xs) (before k d l) (below_all (get_or (take i xs) k d) t (drop i xs) (before k d l) behind))

  -- at such a position t isn't in the list
  pub absent_at_gap : (xs : List K) (i : ℕ) (t : K) → All (λ y. R y t ≡ Less) (take i xs) → All (λ y. R t y ≡ Less) (drop i xs) → Contains xs t → ⊥
  absent_at_gap xs i t before behind h =
      ⊎_elim (λ front. not_among_below t (take i xs) before front) (λ back. not_among t (drop i xs) behind back) (contains_split i xs t h)

  -- a list in order that has a member at a position
  pub split_at : (xs : List K) (i : ℕ) (t : K) → i < length xs → get_or xs i t ≡ t → xs ≡ take i xs ++ (t ∷ drop (suc i) xs)
  split_at xs i t l e = sym (take-append-drop i xs) ∙ ap (λ ys. take i xs ++ ys) (drop-cons xs i t l ∙ ap (λ x. x ∷ drop (suc i) xs) e)

  pub sorted_without : (xs : List K) (i : ℕ) (t : K) → i < length xs → get_or xs i t ≡ t → IsStrictlySortedBy R xs → IsStrictlySortedBy R (remove xs i)
  sorted_without xs i t l e s =
      let parts : IsStrictlySortedBy R (take i xs ++ (t ∷ drop (suc i) xs)) = subst (IsStrictlySortedBy R) (split_at xs i t l e) s in
      sorted_append R (take i xs) (drop (suc i) xs) (sorted_left R (take i xs) _ parts)
      (sorted_rest R t (drop (suc i) xs) (sorted_right R (take i xs) _ parts))
      (λ k d l. All-tail (λ y. R (get_or (take i xs) k d) y ≡ Less) t (drop (suc i) xs) (sorted_cross R (take i xs) _ parts k d l))

  pub contains_without : (xs : List K) (i : ℕ) (t x : K) → i < length xs → get_or xs i t ≡ t → IsStrictlySortedBy R xs → Contains (remove xs i) x ↔ (Contains xs x × (x ≢ t))
  contains_without xs i t x l e s =
      let parts : IsStrictlySortedBy R (take i xs ++ (t ∷ drop (suc i) xs)) = subst (IsStrictlySortedBy R) (split_at xs i t l e) s in
      let cross = sorted_cross R (take i xs) (t ∷ drop (suc i) xs) parts in
      let above : All (λ y. R t y ≡ Less) (drop (suc i) xs) = sorted_first R t (drop (suc i) xs) (sorted_right R (take i xs) _ parts) in
      let below : All (λ y. R y t ≡ Less) (take i xs) = λ k d m. All-head (λ y. R (get_or (take i xs) k d) y ≡ Less) t (drop (suc i) xs) (cross k d m) in (
        λ h. ⊎_elim
            (λ front. (contains_take i xs x front, λ same. not_among_below t (take i xs) below (subst (Contains (take i xs)) same front)))
            (λ back. (contains_drop (suc i) xs x back, λ same. not_among t (drop (suc i) xs) above (subst (Contains (drop (suc i) xs)) same back)))
            (Contains-append_cases (take i xs) (drop (suc i) xs) x h),
        λ h. ⊎_elim
            (λ front. Contains-append_left (take i xs) (drop (suc i) xs) x front)
            (λ rest. ⊎_elim (λ same. absurd (h.1 (sym same))) (λ back. Contains-append_right (take i xs) (drop (suc i) xs) x back)
            (contains_cases t (drop (suc i) xs) x rest))
            (Contains-append_cases (take i xs) (t ∷ drop (suc i) xs) x (subst (λ ys. Contains ys x) (split_at xs i t l e) h.0)),
      )

  -- what a binary search needs
  pub rises : (xs : List K) (t : K) → IsStrictlySortedBy R xs → IsNonDecreasingBy (λ y. ordering_index (R y t)) xs
  rises xs t s =
      searchable_from_sorted o (λ y. y) xs t
      (λ k d low l. ap is_lt (below_is_above (get_or xs k d) (get_or xs (k + 1) d) (Less-from_sorted R xs k (k + 1) d s (omega arith) (omega arith))))

  -- what a binary search for t finds: t, or its position
  pub found_or_gap : (xs : List K) (t : K) (r : Result ℕ ℕ) → IsStrictlySortedBy R xs → IsSearchInRange r (length xs) → IsBinarySearchResult (λ y. R y t) xs r
      → MatchResult r (λ i. slice_get xs i ≡ Some t) (λ i. (i ≤ length xs) × All (λ y. R y t ≡ Less) (take i xs) × All (λ y. R t y ≡ Less) (drop i xs))
  found_or_gap xs t (Ok i) s l h = slice_get-get_or xs i t l ∙ ap (λ x. Some x) (exact _ _ (h t))
  found_or_gap xs t (Err i) s l h =
      let sides = h (rises xs t s) in (
        l,
        All-take_within (λ y. R y t ≡ Less) xs i sides.0,
        All-drop_within (λ y. R t y ≡ Less) xs i (λ k d low m. above_is_below (get_or xs k d) t (sides.1 k d low m)),
      )

  -- lists in order that have the same members are one list
  pub one_list : (xs ys : List K) → IsStrictlySortedBy R xs → IsStrictlySortedBy R ys → ((x : K) → Contains xs x ↔ Contains ys x) → xs ≡ ys
  one_list [] [] s t h = refl
  one_list [] (y ∷ ys) s t h = absurd (contains_none y ((h y).1 (contains_here y ys)))
  one_list (x ∷ xs) [] s t h = absurd (contains_none x ((h x).0 (contains_here x xs)))
  one_list (x ∷ xs) (y ∷ ys) s t h =
      let heads : x ≡ y =
      ⊎_elim (λ same. sym same)
      (λ behind. ⊎_elim (λ same. same)
      (λ behind'. absurd (below_itself x (o.trans x y x
      (All-contains (λ z. R x z ≡ Less) xs y (sorted_first R x xs s) behind')
      (All-contains (λ z. R y z ≡ Less) ys x (sorted_first R y ys t) behind))))
      (contains_cases x xs y ((h y).1 (contains_here y ys))))
      (contains_cases y ys x ((h x).0 (contains_here x xs))) in
      let one : xs ≡ ys =
      one_list xs ys (sorted_rest R x xs s) (sorted_rest R y ys t)
      (λ z. (
        λ m. ⊎_elim
            (λ same. absurd (not_among x xs (sorted_first R x xs s) (subst (Contains xs) (sym same ∙ sym heads) m)))
            (λ there. there)
            (contains_cases y ys z ((h z).0 (contains_there x xs z m))),
        λ m. ⊎_elim
            (λ same. absurd (not_among y ys (sorted_first R y ys t) (subst (Contains ys) (sym same ∙ heads) m)))
            (λ there. there)
            (contains_cases x xs z ((h z).1 (contains_there y ys z m))),
      )) in
      cc
