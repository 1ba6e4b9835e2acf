-- Items in byte order of their paths: what is before and after a path, and what is found there.
use Rattle.std.proofs.Common.{◌≡◌, ℕ, Bool, true, false, not, cond, List, [], ◌∷◌, ◌++◌, filter, Some, None, refl, sym, ap, ◌∙◌, append_assoc, bytes_eq}
use Rattle.std.specs.List.{find}
use Rattle.std.specs.List.Sorted.{IsStrictlySortedBy}
use Rattle.std.specs.Ordering.{is_eq, is_lt, ordering_reverse}
use Rattle.std.specs.declared.cmp.Ordering.{Ordering}
use Rattle.std.specs.declared.cmp.Ordering.TheVariants.{Less, Equal, Greater}
use Rattle.std.proofs.lemmas.Bool.{true≢false}
use Rattle.std.proofs.lemmas.Cmp.{nat_list_cmp_total, tied_itself}
use Rattle.std.proofs.lemmas.Slice.Eq.{bytes_eq-Decides}
use Rattle.std.proofs.lemmas.Map.Text.{is_eq-slice_cmp}
use Rattle.rdf_graph.specs.Triple.{bytes_cmp}
use Rattle.row_pages.specs.Borders.{AreBefore, AreAfter}
use Rattle.row_pages.specs.Items.{Placed, AreItemsInOrder, is_before, is_at, item_at, put_item, remove_item}

-- ---- lists in order

pub order_first : (i : Placed) (is : List Placed) → AreItemsInOrder (i ∷ is) → AreAfter i.row.path is
unfolding IsStrictlySortedBy
order_first i is h = h.0

pub order_rest : (i : Placed) (is : List Placed) → AreItemsInOrder (i ∷ is) → AreItemsInOrder is
unfolding IsStrictlySortedBy
order_rest i is h = h.1

pub order_nil : AreItemsInOrder []
unfolding IsStrictlySortedBy
order_nil = tt

pub order_cons : (i : Placed) (is : List Placed) → AreAfter i.row.path is → AreItemsInOrder is → AreItemsInOrder (i ∷ is)
unfolding IsStrictlySortedBy
order_cons i is a o = (a, o)

-- ---- two paths

pub less_other : (p q : List ℕ) → bytes_cmp p q ≡ Less → bytes_eq q p ≡ false
less_other p q h = sym (is_eq-slice_cmp q p) ∙ ap is_eq (nat_list_cmp_total.antisymm q p ∙ ap ordering_reverse h)

pub less_same : (p q : List ℕ) → bytes_cmp q p ≡ Less → bytes_eq q p ≡ false
less_same p q h = sym (is_eq-slice_cmp q p) ∙ ap is_eq h

pub less_back : (p q : List ℕ) → bytes_cmp p q ≡ Less → is_before q p ≡ false
less_back p q h = ap is_lt (nat_list_cmp_total.antisymm q p ∙ ap ordering_reverse h)

pub itself : (p : List ℕ) → bytes_eq p p ≡ true
itself p = sym (is_eq-slice_cmp p p) ∙ ap is_eq (tied_itself nat_list_cmp_total p)

pub not_itself : (p : List ℕ) → is_before p p ≡ false
not_itself p = ap is_lt (tied_itself nat_list_cmp_total p)

pub same_path : (p q : List ℕ) → bytes_cmp p q ≡ Equal → p ≡ q
same_path p q h = (bytes_eq-Decides p q).0 (sym (is_eq-slice_cmp p q) ∙ ap is_eq h)

pub less_of : (o : Ordering) → is_lt o ≡ true → o ≡ Less
less_of Less h = refl
less_of Equal h = absurd (true≢false (sym h))
less_of Greater h = absurd (true≢false (sym h))

-- a path before another, which is not before a third
pub less_by : (p q r : List ℕ) → bytes_cmp p q ≡ Less → is_before r q ≡ false → bytes_cmp p r ≡ Less
less_by p q r h n = by_order (bytes_cmp r q) refl
  where
    by_order : (o : Ordering) → bytes_cmp r q ≡ o → bytes_cmp p r ≡ Less
    by_order Less e = absurd (true≢false (sym (ap is_lt e) ∙ n))
    by_order Equal e = ap (bytes_cmp p) (same_path r q e) ∙ h
    by_order Greater e = nat_list_cmp_total.trans p q r h (nat_list_cmp_total.antisymm q r ∙ ap ordering_reverse e)

-- ---- what is before and after a path

pub after_further : (p q : List ℕ) (is : List Placed) → bytes_cmp p q ≡ Less → AreAfter q is → AreAfter p is
after_further p q [] h b = tt
after_further p q (i ∷ is) h b = (nat_list_cmp_total.trans p q i.row.path h b.0, after_further p q is h b.1)

pub after_left : (p : List ℕ) (xs ys : List Placed) → AreAfter p (xs ++ ys) → AreAfter p xs
after_left p [] ys h = tt
after_left p (x ∷ xs) ys h = (h.0, after_left p xs ys h.1)

pub after_right : (p : List ℕ) (xs ys : List Placed) → AreAfter p (xs ++ ys) → AreAfter p ys
after_right p [] ys h = h
after_right p (x ∷ xs) ys h = after_right p xs ys h.1

pub order_left : (xs ys : List Placed) → AreItemsInOrder (xs ++ ys) → AreItemsInOrder xs
order_left [] ys h = order_nil
order_left (x ∷ xs) ys h = order_cons x xs (after_left x.row.path xs ys (order_first x (xs ++ ys) h)) (order_left xs ys (order_rest x (xs ++ ys) h))

pub order_right : (xs ys : List Placed) → AreItemsInOrder (xs ++ ys) → AreItemsInOrder ys
order_right [] ys h = h
order_right (x ∷ xs) ys h = order_right xs ys (order_rest x (xs ++ ys) h)

-- items before a part, where its first item isn't after the path
pub before_part : (p : List ℕ) (xs : List Placed) (i : Placed) (is : List Placed) → AreItemsInOrder (xs ++ i ∷ is) → is_before p i.row.path ≡ false → AreBefore p xs
before_part p [] i is o h = tt
before_part p (x ∷ xs) i is o h = (
  less_by x.row.path i.row.path p ((after_right x.row.path xs (i ∷ is) (order_first x (xs ++ i ∷ is) o)).0) h,
  before_part p xs i is (order_rest x (xs ++ i ∷ is) o) h,
)

-- items from one on that is after the path
pub after_part : (p : List ℕ) (i : Placed) (is : List Placed) → AreItemsInOrder (i ∷ is) → bytes_cmp p i.row.path ≡ Less → AreAfter p (i ∷ is)
after_part p i is o h = (h, after_further p i.row.path is h (order_first i is o))

-- ---- what is found

none_after : (p : List ℕ) (is : List Placed) → AreAfter p is → item_at is p ≡ None
none_after p [] h = refl
none_after p (i ∷ is) h = ap (λ b. cond b (Some i) (find (is_at p) is)) (less_other p i.row.path h.0) ∙ none_after p is h.1

found_left : (p : List ℕ) (ms ys : List Placed) → AreAfter p ys → item_at (ms ++ ys) p ≡ item_at ms p
found_left p [] ys h = none_after p ys h
found_left p (m ∷ ms) ys h = ap (cond (is_at p m) (Some m)) (found_left p ms ys h)

pub found_within : (p : List ℕ) (xs ms ys : List Placed) → AreBefore p xs → AreAfter p ys → item_at (xs ++ (ms ++ ys)) p ≡ item_at ms p
found_within p [] ms ys a b = found_left p ms ys b
found_within p (x ∷ xs) ms ys a b = ap (λ c. cond c (Some x) (find (is_at p) (xs ++ (ms ++ ys)))) (less_same p x.row.path a.0) ∙ found_within p xs ms ys a.1 b

-- ---- what is put

abbrev before_of : List ℕ → List Placed → List Placed
before_of p is = filter (λ o. is_before o.row.path p) is

abbrev after_of : List ℕ → List Placed → List Placed
after_of p is = filter (λ o. is_before p o.row.path) is

before_none : (p : List ℕ) (ys : List Placed) → AreAfter p ys → before_of p ys ≡ []
before_none p [] h = refl
before_none p (y ∷ ys) h = ap (λ b. cond b (y ∷ before_of p ys) (before_of p ys)) (less_back p y.row.path h.0) ∙ before_none p ys h.1

after_all : (p : List ℕ) (ys : List Placed) → AreAfter p ys → after_of p ys ≡ ys
after_all p [] h = refl
after_all p (y ∷ ys) h = ap (λ b. cond b (y ∷ after_of p ys) (after_of p ys)) (ap is_lt h.0) ∙ ap (λ (zs : List Placed). y ∷ zs) (after_all p ys h.1)

before_left : (p : List ℕ) (ms ys : List Placed) → AreAfter p ys → before_of p (ms ++ ys) ≡ before_of p ms
before_left p [] ys h = before_none p ys h
before_left p (m ∷ ms) ys h = ap (λ zs. cond (is_before m.row.path p) (m ∷ zs) zs) (before_left p ms ys h)

cond_append : (b : Bool) (m : Placed) (zs ys : List Placed) → cond b (m ∷ (zs ++ ys)) (zs ++ ys) ≡ cond b (m ∷ zs) zs ++ ys
cond_append true m zs ys = refl
cond_append false m zs ys = refl

after_left_of : (p : List ℕ) (ms ys : List Placed) → AreAfter p ys → after_of p (ms ++ ys) ≡ after_of p ms ++ ys
after_left_of p [] ys h = after_all p ys h
after_left_of p (m ∷ ms) ys h =
    ap (λ zs. cond (is_before p m.row.path) (m ∷ zs) zs) (after_left_of p ms ys h) ∙ cond_append (is_before p m.row.path) m (after_of p ms) ys

before_right : (p : List ℕ) (xs zs : List Placed) → AreBefore p xs → before_of p (xs ++ zs) ≡ xs ++ before_of p zs
before_right p [] zs h = refl
before_right p (x ∷ xs) zs h =
    ap (λ b. cond b (x ∷ before_of p (xs ++ zs)) (before_of p (xs ++ zs))) (ap is_lt h.0) ∙ ap (λ (ws : List Placed). x ∷ ws) (before_right p xs zs h.1)

after_right_of : (p : List ℕ) (xs zs : List Placed) → AreBefore p xs → after_of p (xs ++ zs) ≡ after_of p zs
after_right_of p [] zs h = refl
after_right_of p (x ∷ xs) zs h =
    ap (λ b. cond b (x ∷ after_of p (xs ++ zs)) (after_of p (xs ++ zs))) (less_back x.row.path p h.0) ∙ after_right_of p xs zs h.1

pub put_within : (i : Placed) (xs ms ys : List Placed) → AreBefore i.row.path xs → AreAfter i.row.path ys → put_item (xs ++ (ms ++ ys)) i ≡ xs ++ (put_item ms i ++ ys)
put_within i xs ms ys a b =
    let p : List ℕ = i.row.path in
    let first : before_of p (xs ++ (ms ++ ys)) ≡ xs ++ before_of p ms = before_right p xs (ms ++ ys) a ∙ ap (λ zs. xs ++ zs) (before_left p ms ys b) in
    let last : after_of p (xs ++ (ms ++ ys)) ≡ after_of p ms ++ ys = after_right_of p xs (ms ++ ys) a ∙ after_left_of p ms ys b in
    ap (λ zs. zs ++ i ∷ after_of p (xs ++ (ms ++ ys))) first
    ∙ ap (λ zs. (xs ++ before_of p ms) ++ i ∷ zs) last
    ∙ append_assoc xs (before_of p ms) (i ∷ (after_of p ms ++ ys))
    ∙ ap (λ zs. xs ++ zs) (sym (append_assoc (before_of p ms) (i ∷ after_of p ms) ys))

-- ---- what is removed

abbrev others : List ℕ → List Placed → List Placed
others p is = filter (λ o. not (is_at p o)) is

removed_all : (p : List ℕ) (ys : List Placed) → AreAfter p ys → others p ys ≡ ys
removed_all p [] h = refl
removed_all p (y ∷ ys) h = ap (λ b. cond (not b) (y ∷ others p ys) (others p ys)) (less_other p y.row.path h.0) ∙ ap (λ (zs : List Placed). y ∷ zs) (removed_all p ys h.1)

removed_left : (p : List ℕ) (ms ys : List Placed) → AreAfter p ys → others p (ms ++ ys) ≡ others p ms ++ ys
removed_left p [] ys h = removed_all p ys h
removed_left p (m ∷ ms) ys h =
    ap (λ zs. cond (not (is_at p m)) (m ∷ zs) zs) (removed_left p ms ys h) ∙ cond_append (not (is_at p m)) m (others p ms) ys

pub removed_within : (p : List ℕ) (xs ms ys : List Placed) → AreBefore p xs → AreAfter p ys → remove_item (xs ++ (ms ++ ys)) p ≡ xs ++ (remove_item ms p ++ ys)
removed_within p [] ms ys a b = removed_left p ms ys b
removed_within p (x ∷ xs) ms ys a b =
    ap (λ c. cond (not c) (x ∷ others p (xs ++ (ms ++ ys))) (others p (xs ++ (ms ++ ys)))) (less_same p x.row.path a.0) ∙ ap (λ (zs : List Placed). x ∷ zs) (removed_within p xs ms ys a.1 b)

-- ---- one item

abbrev pub one_put : Placed → Placed → Ordering → List Placed
one_put i j Less = i ∷ j ∷ []
one_put i j Equal = i ∷ []
one_put i j Greater = j ∷ i ∷ []

pub put_one : (i j : Placed) (o : Ordering) → bytes_cmp i.row.path j.row.path ≡ o → put_item (j ∷ []) i ≡ one_put i j o
put_one i j Less e =
    ap (λ b. cond b (j ∷ []) [] ++ i ∷ after_of i.row.path (j ∷ [])) (less_back i.row.path j.row.path e)
    ∙ ap (λ b. i ∷ cond b (j ∷ []) []) (ap is_lt e)
put_one i j Equal e =
    ap (λ b. cond b (j ∷ []) [] ++ i ∷ after_of i.row.path (j ∷ [])) (ap is_lt (nat_list_cmp_total.antisymm j.row.path i.row.path ∙ ap ordering_reverse e))
    ∙ ap (λ b. i ∷ cond b (j ∷ []) []) (ap is_lt e)
put_one i j Greater e =
    ap (λ b. cond b (j ∷ []) [] ++ i ∷ after_of i.row.path (j ∷ [])) (ap is_lt (nat_list_cmp_total.antisymm j.row.path i.row.path ∙ ap ordering_reverse e))
    ∙ ap (λ b. j ∷ i ∷ cond b (j ∷ []) []) (ap is_lt e)
