-- Items after a change are in order, and how many they are.
use Rattle.std.proofs.Common.{subst, ◌≡◌, ◌+◌, ◌-◌, ◌<◌, ℕ, Bool, true, false, not, cond, List, [], ◌∷◌, ◌++◌, length, filter, Some, None, refl, ap, ◌∙◌, arith, bytes_eq}
use Rattle.std.specs.Prelude.{is_some, if◌then◌else◌}
use Rattle.std.specs.Ordering.{is_lt, ordering_reverse}
use Rattle.std.specs.declared.cmp.Ordering.{Ordering}
use Rattle.std.specs.declared.cmp.Ordering.TheVariants.{Less, Equal, Greater}
use Rattle.std.proofs.lemmas.Cmp.{nat_list_cmp_total}
use Rattle.std.proofs.lemmas.Slice.Eq.{bytes_eq-Decides}
use Rattle.rdf_graph.specs.Triple.{bytes_cmp}
use Rattle.row_pages.specs.Borders.{AreAfter}
use Rattle.row_pages.specs.Items.{Placed, AreItemsInOrder, is_before, is_at, item_at, put_item, remove_item}
use Rattle.row_pages.proofs.Ordered.{order_first, order_rest, order_nil, order_cons, after_further, less_other, less_same, less_back, itself, not_itself, same_path}

after_filter : (p : List ℕ) (keep : Placed → Bool) (is : List Placed) → AreAfter p is → AreAfter p (filter keep is)
after_filter p keep [] h = tt
after_filter p keep (i ∷ is) h = elim (keep i) as (λ b. AreAfter p (cond b (i ∷ filter keep is) (filter keep is))) [ true ↦ (h.0, after_filter p keep is h.1) | false ↦ after_filter p keep is h.1 ]

pub order_filter : (keep : Placed → Bool) (is : List Placed) → AreItemsInOrder is → AreItemsInOrder (filter keep is)
order_filter keep [] h = order_nil
order_filter keep (i ∷ is) h = elim (keep i) as (λ b. AreItemsInOrder (cond b (i ∷ filter keep is) (filter keep is))) [ true ↦ order_cons i (filter keep is) (after_filter i.row.path keep is (order_first i is h)) (order_filter keep is (order_rest i is h)) | false ↦ order_filter keep is (order_rest i is h) ]

after_step : (p : List ℕ) (r : Placed) (rest : List Placed) (o : Ordering) → bytes_cmp p r.row.path ≡ o → AreAfter p rest → AreAfter p (cond (is_lt o) (r ∷ rest) rest)
after_step p r rest Less e h = (e, h)
after_step p r rest Equal e h = h
after_step p r rest Greater e h = h

after_kept : (p : List ℕ) (is : List Placed) → AreAfter p (filter (λ i. is_before p i.row.path) is)
after_kept p [] = tt
after_kept p (i ∷ is) = after_step p i (filter (λ j. is_before p j.row.path) is) (bytes_cmp p i.row.path) refl (after_kept p is)

after_join : (p : List ℕ) (xs : List Placed) (i : Placed) (ys : List Placed) → AreAfter p xs → bytes_cmp p i.row.path ≡ Less → AreAfter i.row.path ys → AreAfter p (xs ++ i ∷ ys)
after_join p [] i ys h e b = (e, after_further p i.row.path ys e b)
after_join p (x ∷ xs) i ys h e b = (h.0, after_join p xs i ys h.1 e b)

order_step : (x i : Placed) (xs ys : List Placed) (o : Ordering) → bytes_cmp x.row.path i.row.path ≡ o → AreAfter x.row.path xs → AreAfter i.row.path ys → AreItemsInOrder (xs ++ i ∷ ys)
    → AreItemsInOrder (cond (is_lt o) (x ∷ xs) xs ++ i ∷ ys)
order_step x i xs ys Less e h b s = order_cons x (xs ++ i ∷ ys) (after_join x.row.path xs i ys h e b) s
order_step x i xs ys Equal e h b s = s
order_step x i xs ys Greater e h b s = s

order_both : (i : Placed) (is ys : List Placed) → AreItemsInOrder is → AreAfter i.row.path ys → AreItemsInOrder ys → AreItemsInOrder (filter (λ j. is_before j.row.path i.row.path) is ++ i ∷ ys)
order_both i [] ys h b s = order_cons i ys b s
order_both i (x ∷ is) ys h b s =
    order_step x i (filter (λ j. is_before j.row.path i.row.path) is) ys (bytes_cmp x.row.path i.row.path) refl
    (after_filter x.row.path (λ j. is_before j.row.path i.row.path) is (order_first x is h)) b (order_both i is ys (order_rest x is h) b s)

pub order_put : (is : List Placed) (i : Placed) → AreItemsInOrder is → AreItemsInOrder (put_item is i)
order_put is i h = order_both i is (filter (λ j. is_before i.row.path j.row.path) is) h (after_kept i.row.path is) (order_filter (λ j. is_before i.row.path j.row.path) is h)

pub order_removed : (is : List Placed) (p : List ℕ) → AreItemsInOrder is → AreItemsInOrder (remove_item is p)
order_removed is p h = order_filter (λ i. not (is_at p i)) is h

-- ---- how many there are

abbrev number : Bool → ℕ
number true = 1
number false = 0

abbrev counts : List Placed → Placed → ℕ
counts is i = length (filter (λ j. is_before j.row.path i.row.path) is) + length (filter (λ j. is_before i.row.path j.row.path) is)

length_kept : (b : Bool) (x : Placed) (xs : List Placed) → length (cond b (x ∷ xs) xs) ≡ number b + length xs
length_kept true x xs = omega arith
length_kept false x xs = omega arith

length_both : (xs ys : List Placed) (i : Placed) → length (xs ++ i ∷ ys) ≡ length xs + length ys + 1
length_both [] ys i = omega arith
length_both (x ∷ xs) ys i = let l = length_both xs ys i in omega (arith, l)

-- none of those after the path is at it or before it
after_counts : (is : List Placed) (i : Placed) → AreAfter i.row.path is → counts is i ≡ length is
after_counts [] i h = refl
after_counts (x ∷ xs) i h =
    let more = after_counts xs i h.1 in
    let back : is_before x.row.path i.row.path ≡ false = less_back i.row.path x.row.path h.0 in
    let first = length_kept (is_before x.row.path i.row.path) x (filter (λ j. is_before j.row.path i.row.path) xs) ∙ ap (λ b. number b + length (filter (λ j. is_before j.row.path i.row.path) xs)) back in
    let second = length_kept (is_before i.row.path x.row.path) x (filter (λ j. is_before i.row.path j.row.path) xs) ∙ ap (λ b. number b + length (filter (λ j. is_before i.row.path j.row.path) xs)) (ap is_lt h.0) in
    omega (arith, more, first, second)

found_after : (is : List Placed) (p : List ℕ) → AreAfter p is → is_some (item_at is p) ≡ false
found_after [] p h = refl
found_after (x ∷ xs) p h = ap (λ b. is_some (cond b (Some x) (item_at xs p))) (less_other p x.row.path h.0) ∙ found_after xs p h.1

counted : (is : List Placed) (i : Placed) → AreItemsInOrder is → counts is i + number (is_some (item_at is i.row.path)) ≡ length is
counted [] i o = refl
counted (x ∷ xs) i o = by_order (bytes_cmp x.row.path i.row.path) refl (counted xs i (order_rest x xs o))
  where
    by_order : (r : Ordering) → bytes_cmp x.row.path i.row.path ≡ r → counts xs i + number (is_some (item_at xs i.row.path)) ≡ length xs → counts (x ∷ xs) i + number (is_some (item_at (x ∷ xs) i.row.path)) ≡ length (x ∷ xs)
    by_order Less e more =
        let first = length_kept (is_before x.row.path i.row.path) x (filter (λ j. is_before j.row.path i.row.path) xs) ∙ ap (λ b. number b + length (filter (λ j. is_before j.row.path i.row.path) xs)) (ap is_lt e) in
        let second = length_kept (is_before i.row.path x.row.path) x (filter (λ j. is_before i.row.path j.row.path) xs) ∙ ap (λ b. number b + length (filter (λ j. is_before i.row.path j.row.path) xs)) (less_back x.row.path i.row.path e) in
        let third = ap (λ b. number (is_some (cond b (Some x) (item_at xs i.row.path)))) (less_same i.row.path x.row.path e) in
        omega (arith, more, first, second, third)
    by_order Equal e held =
        let same : x.row.path ≡ i.row.path = same_path x.row.path i.row.path e in
        let after : AreAfter i.row.path xs = subst (λ (p : List ℕ). AreAfter p xs) same (order_first x xs o) in
        let more = after_counts xs i after in
        let first = length_kept (is_before x.row.path i.row.path) x (filter (λ j. is_before j.row.path i.row.path) xs) ∙ ap (λ b. number b + length (filter (λ j. is_before j.row.path i.row.path) xs)) (ap (λ (p : List ℕ). is_before p i.row.path) same ∙ not_itself i.row.path) in
        let second = length_kept (is_before i.row.path x.row.path) x (filter (λ j. is_before i.row.path j.row.path) xs) ∙ ap (λ b. number b + length (filter (λ j. is_before i.row.path j.row.path) xs)) (ap (λ (p : List ℕ). is_before i.row.path p) same ∙ not_itself i.row.path) in
        let third = ap (λ b. number (is_some (cond b (Some x) (item_at xs i.row.path)))) (ap (λ (p : List ℕ). bytes_eq p i.row.path) same ∙ itself i.row.path) in
        omega (arith, more, first, second, third)
    by_order Greater e held =
        let less : bytes_cmp i.row.path x.row.path ≡ Less = nat_list_cmp_total.antisymm i.row.path x.row.path ∙ ap ordering_reverse e in
        let after : AreAfter i.row.path xs = after_further i.row.path x.row.path xs less (order_first x xs o) in
        let more = after_counts xs i after in
        let first = length_kept (is_before x.row.path i.row.path) x (filter (λ j. is_before j.row.path i.row.path) xs) ∙ ap (λ b. number b + length (filter (λ j. is_before j.row.path i.row.path) xs)) (ap is_lt e) in
        let second = length_kept (is_before i.row.path x.row.path) x (filter (λ j. is_before i.row.path j.row.path) xs) ∙ ap (λ b. number b + length (filter (λ j. is_before i.row.path j.row.path) xs)) (ap is_lt less) in
        let third = ap (λ b. number (is_some (cond b (Some x) (item_at xs i.row.path)))) (less_other i.row.path x.row.path less) ∙ ap number (found_after xs i.row.path after) in
        omega (arith, more, first, second, third)

pub length_put : (is : List Placed) (i : Placed) → AreItemsInOrder is → length (put_item is i) + number (is_some (item_at is i.row.path)) ≡ length is + 1
length_put is i o =
    let whole = length_both (filter (λ j. is_before j.row.path i.row.path) is) (filter (λ j. is_before i.row.path j.row.path) is) i in
    let all = counted is i o in
    omega (arith, whole, all)

pub put_new : (is : List Placed) (i : Placed) → AreItemsInOrder is → item_at is i.row.path ≡ None → length (put_item is i) ≡ length is + 1
put_new is i o e = let l = length_put is i o in let n = ap (λ x. number (is_some x)) e in omega (arith, l, n)

pub put_old : (is : List Placed) (i j : Placed) → AreItemsInOrder is → item_at is i.row.path ≡ Some j → length (put_item is i) ≡ length is
put_old is i j o e = let l = length_put is i o in let n = ap (λ x. number (is_some x)) e in omega (arith, l, n)

pub put_count : (is : List Placed) (i : Placed) (replaces : Bool) (before after : ℕ) → AreItemsInOrder is → replaces ≡ is_some (item_at is i.row.path) → before ≡ length is
    → after ≡ (if replaces then before else before + 1) → after ≡ length (put_item is i)
put_count is i true before after o e b a = let l = length_put is i o in let n = ap number e in omega (arith, l, n, b, a)
put_count is i false before after o e b a = let l = length_put is i o in let n = ap number e in omega (arith, l, n, b, a)

kept_all : (is : List Placed) (p : List ℕ) → AreAfter p is → length (remove_item is p) ≡ length is
kept_all [] p h = refl
kept_all (x ∷ xs) p h =
    let more = kept_all xs p h.1 in
    let first = length_kept (not (is_at p x)) x (remove_item xs p) ∙ ap (λ b. number (not b) + length (remove_item xs p)) (less_other p x.row.path h.0) in
    omega (arith, more, first)

pub length_removed : (is : List Placed) (p : List ℕ) → AreItemsInOrder is → length (remove_item is p) + number (is_some (item_at is p)) ≡ length is
length_removed [] p o = refl
length_removed (x ∷ xs) p o = by_test (is_at p x) refl (length_removed xs p (order_rest x xs o))
  where
    by_test : (b : Bool) → is_at p x ≡ b → length (remove_item xs p) + number (is_some (item_at xs p)) ≡ length xs → length (remove_item (x ∷ xs) p) + number (is_some (item_at (x ∷ xs) p)) ≡ length (x ∷ xs)
    by_test true e held =
        let same : x.row.path ≡ p = (bytes_eq-Decides x.row.path p).0 e in
        let more = kept_all xs p (subst (λ (q : List ℕ). AreAfter q xs) same (order_first x xs o)) in
        let first = length_kept (not (is_at p x)) x (remove_item xs p) ∙ ap (λ b. number (not b) + length (remove_item xs p)) e in
        let third = ap (λ b. number (is_some (cond b (Some x) (item_at xs p)))) e in
        omega (arith, more, first, third)
    by_test false e more =
        let first = length_kept (not (is_at p x)) x (remove_item xs p) ∙ ap (λ b. number (not b) + length (remove_item xs p)) e in
        let third = ap (λ b. number (is_some (cond b (Some x) (item_at xs p)))) e in
        omega (arith, more, first, third)

pub removed_new : (is : List Placed) (p : List ℕ) → AreItemsInOrder is → item_at is p ≡ None → length (remove_item is p) ≡ length is
removed_new is p o e = let l = length_removed is p o in let n = ap (λ x. number (is_some x)) e in omega (arith, l, n)

pub removed_old : (is : List Placed) (p : List ℕ) (j : Placed) → AreItemsInOrder is → item_at is p ≡ Some j → (length (remove_item is p) ≡ length is - 1) × (0 < length is)
removed_old is p j o e = let l = length_removed is p o in let n = ap (λ x. number (is_some x)) e in (omega (arith, l, n), omega (arith, l, n))
