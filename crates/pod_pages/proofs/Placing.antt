-- Items and their rows.
use Rattle.std.proofs.Common.{◌≡◌, ℕ, Bool, true, false, not, cond, List, [], ◌∷◌, ◌++◌, map, filter, Option, Some, None, refl, sym, ap, ◌∙◌, subst, option_map}
use Rattle.std.specs.Prelude.{bytes_eq, is_some}
use Rattle.std.specs.List.{AllByRecursion}
use Rattle.std.specs.Ordering.{is_lt, ordering_reverse}
use Rattle.std.specs.declared.cmp.Ordering.{Ordering}
use Rattle.std.specs.declared.cmp.Ordering.TheVariants.{Less, Equal, Greater}
use Rattle.std.proofs.lemmas.Cmp.{nat_list_cmp_total}
use Rattle.std.proofs.lemmas.Slice.Eq.{bytes_eq-Decides}
use Rattle.rdf_graph.specs.Triple.{bytes_cmp}
use Rattle.pod_command.specs.Encodable.{AreInOrder}
use Rattle.pod_command.specs.declared.row.Row.{Row}
use Rattle.pod_rows.specs.Apply.{is_before, put_row, remove_row}
use Rattle.pod_rows.specs.Pod.{row_at, is_row}
use Rattle.pod_rows.proofs.OrderedRows.{After, order_first, order_rest, order_nil, order_cons, none_after, after_further, other_more, same_path}
use Rattle.row_pages.specs.Borders.{AreAfter}
use Rattle.row_pages.specs.Items.{Placed, AreItemsInOrder, item_at, put_item, remove_item, rows_of}
use Rattle.row_pages.proofs.Ordered.{order_first as items_first, order_rest as items_rest, less_back, less_same, itself}
use Rattle.pod_pages.specs.Edited.{placed_by, list_if, own_mark_if, AreMarkedBy}

abbrev pub row_of : Placed → Row
row_of i = i.row

-- ---- the rows of items

pub found_rows : (items : List Placed) (p : List ℕ) → option_map row_of (item_at items p) ≡ row_at (rows_of items) p
found_rows [] p = refl
found_rows (i ∷ is) p = by_test (bytes_eq i.row.path p) (found_rows is p)
  where
    by_test : (b : Bool) → option_map row_of (item_at is p) ≡ row_at (rows_of is) p → option_map row_of (cond b (Some i) (item_at is p)) ≡ cond b (Some i.row) (row_at (rows_of is) p)
    by_test true more = refl
    by_test false more = more

pub is_some_map : {X Y : Type 0} (f : X → Y) (o : Option X) → is_some (option_map f o) ≡ is_some o
is_some_map f None = refl
is_some_map f (Some x) = refl

pub found_is : (items : List Placed) (p : List ℕ) → is_some (item_at items p) ≡ is_row (rows_of items) p
found_is items p = sym (is_some_map row_of (item_at items p)) ∙ ap is_some (found_rows items p)

pub map_filter : {X Y : Type 0} (f : X → Y) (p : Y → Bool) (xs : List X) → map f (filter (λ x. p (f x)) xs) ≡ filter p (map f xs)
map_filter f p [] = refl
map_filter f p (x ∷ xs) = by_test (p (f x)) (map_filter f p xs)
  where
    by_test : (b : Bool) → map f (filter (λ x. p (f x)) xs) ≡ filter p (map f xs) → map f (cond b (x ∷ filter (λ x. p (f x)) xs) (filter (λ x. p (f x)) xs)) ≡ cond b (f x ∷ filter p (map f xs)) (filter p (map f xs))
    by_test true more = ap (λ ys. f x ∷ ys) more
    by_test false more = more

pub map_append : {X Y : Type 0} (f : X → Y) (xs ys : List X) → map f (xs ++ ys) ≡ map f xs ++ map f ys
map_append f [] ys = refl
map_append f (x ∷ xs) ys = ap (λ zs. f x ∷ zs) (map_append f xs ys)

pub rows_put : (items : List Placed) (i : Placed) → rows_of (put_item items i) ≡ put_row (rows_of items) i.row
rows_put items i =
    map_append row_of (filter (λ o. is_before o.row.path i.row.path) items) (i ∷ filter (λ o. is_before i.row.path o.row.path) items)
    ∙ ap (λ (xs : List Row). xs ++ i.row ∷ rows_of (filter (λ o. is_before i.row.path o.row.path) items)) (map_filter row_of (λ (r : Row). is_before r.path i.row.path) items)
    ∙ ap (λ (xs : List Row). filter (λ (r : Row). is_before r.path i.row.path) (rows_of items) ++ i.row ∷ xs) (map_filter row_of (λ (r : Row). is_before i.row.path r.path) items)

pub rows_removed : (items : List Placed) (p : List ℕ) → rows_of (remove_item items p) ≡ remove_row (rows_of items) p
rows_removed items p = map_filter row_of (λ (r : Row). not (bytes_eq r.path p)) items

-- ---- marks from older items

pub marked_put : (old items : List Placed) (r : Row) → AreMarkedBy old items → AreMarkedBy old (put_item items (placed_by old r))
marked_put old items r h =
    let f = placed_by old in
    ap (λ (is : List Placed). put_item is (f r)) h
    ∙ ap (λ (xs : List Placed). xs ++ f r ∷ filter (λ (o : Placed). is_before r.path o.row.path) (map f (rows_of items))) (sym (map_filter f (λ (o : Placed). is_before o.row.path r.path) (rows_of items)))
    ∙ ap (λ (xs : List Placed). map f (filter (λ (o : Row). is_before o.path r.path) (rows_of items)) ++ f r ∷ xs) (sym (map_filter f (λ (o : Placed). is_before r.path o.row.path) (rows_of items)))
    ∙ sym (map_append f (filter (λ (o : Row). is_before o.path r.path) (rows_of items)) (r ∷ filter (λ (o : Row). is_before r.path o.path) (rows_of items)))
    ∙ ap (map f) (sym (rows_put items (f r)))

pub marked_removed : (old items : List Placed) (p : List ℕ) → AreMarkedBy old items → AreMarkedBy old (remove_item items p)
marked_removed old items p h =
    let f = placed_by old in
    ap (λ (is : List Placed). remove_item is p) h ∙ sym (map_filter f (λ (o : Placed). not (bytes_eq o.row.path p)) (rows_of items)) ∙ ap (map f) (sym (rows_removed items p))

pub marked_found : (old : List Placed) (rows : List Row) (p : List ℕ) → item_at (map (placed_by old) rows) p ≡ option_map (placed_by old) (row_at rows p)
marked_found old [] p = refl
marked_found old (r ∷ rs) p = by_test (bytes_eq r.path p) (marked_found old rs p)
  where
    by_test : (b : Bool) → item_at (map (placed_by old) rs) p ≡ option_map (placed_by old) (row_at rs p) → cond b (Some (placed_by old r)) (item_at (map (placed_by old) rs) p) ≡ option_map (placed_by old) (cond b (Some r) (row_at rs p))
    by_test true more = refl
    by_test false more = more

-- ---- order

rows_after : (p : List ℕ) (items : List Placed) → AreAfter p items → After p (rows_of items)
rows_after p [] h = tt
rows_after p (i ∷ is) h = (h.0, rows_after p is h.1)

pub rows_order : (items : List Placed) → AreItemsInOrder items → AreInOrder (rows_of items)
rows_order [] o = order_nil
rows_order (i ∷ is) o = order_cons i.row (rows_of is) (rows_after i.row.path is (items_first i is o)) (rows_order is (items_rest i is o))

before_none : (p : List ℕ) (rs : List Row) → After p rs → filter (λ (r : Row). is_before r.path p) rs ≡ []
before_none p [] h = refl
before_none p (r ∷ rs) h = ap (λ b. cond b (r ∷ filter (λ (x : Row). is_before x.path p) rs) (filter (λ (x : Row). is_before x.path p) rs)) (less_back p r.path h.0) ∙ before_none p rs h.1

after_all : (p : List ℕ) (rs : List Row) → After p rs → filter (λ (r : Row). is_before p r.path) rs ≡ rs
after_all p [] h = refl
after_all p (r ∷ rs) h = ap (λ b. cond b (r ∷ filter (λ (x : Row). is_before p x.path) rs) (filter (λ (x : Row). is_before p x.path) rs)) (ap is_lt h.0) ∙ ap (λ (xs : List Row). r ∷ xs) (after_all p rs h.1)

-- a row that is there already
pub put_same : (rows : List Row) (r : Row) → AreInOrder rows → row_at rows r.path ≡ Some r → put_row rows r ≡ rows
put_same [] r o h = absurd cc
put_same (x ∷ xs) r o h = by_order (bytes_cmp x.path r.path) refl (λ k. put_same xs r (order_rest x xs o) k)
  where
    both : (a b : Bool) → is_before x.path r.path ≡ a → is_before r.path x.path ≡ b
        → put_row (x ∷ xs) r ≡ cond a (x ∷ filter (λ (y : Row). is_before y.path r.path) xs) (filter (λ (y : Row). is_before y.path r.path) xs) ++ r ∷ cond b (x ∷ filter (λ (y : Row). is_before r.path y.path) xs) (filter (λ (y : Row). is_before r.path y.path) xs)
    both a b ea eb =
        ap (λ t. cond t (x ∷ filter (λ (y : Row). is_before y.path r.path) xs) (filter (λ (y : Row). is_before y.path r.path) xs) ++ r ∷ filter (λ (y : Row). is_before r.path y.path) (x ∷ xs)) ea
        ∙ ap (λ t. cond a (x ∷ filter (λ (y : Row). is_before y.path r.path) xs) (filter (λ (y : Row). is_before y.path r.path) xs) ++ r ∷ cond t (x ∷ filter (λ (y : Row). is_before r.path y.path) xs) (filter (λ (y : Row). is_before r.path y.path) xs)) eb

    by_order : (c : Ordering) → bytes_cmp x.path r.path ≡ c → (row_at xs r.path ≡ Some r → put_row xs r ≡ xs) → put_row (x ∷ xs) r ≡ x ∷ xs
    by_order Less e more =
        both true false (ap is_lt e) (less_back x.path r.path e)
        ∙ ap (λ (ys : List Row). x ∷ ys) (more (sym (ap (λ b. cond b (Some x) (row_at xs r.path)) (other_more r.path x.path e)) ∙ h))
    by_order Equal e more =
        let same : x.path ≡ r.path = same_path x.path r.path e in
        let after : After r.path xs = subst (λ p. After p xs) same (order_first x xs o) in
        let back : bytes_cmp r.path x.path ≡ Equal = nat_list_cmp_total.antisymm r.path x.path ∙ ap ordering_reverse e in
        let here : Some x ≡ Some r = sym (ap (λ b. cond b (Some x) (row_at xs r.path)) ((bytes_eq-Decides x.path r.path).1 same)) ∙ h in
        both false false (ap is_lt e) (ap is_lt back)
        ∙ ap (λ (ys : List Row). ys ++ r ∷ filter (λ (y : Row). is_before r.path y.path) xs) (before_none r.path xs after)
        ∙ ap (λ (ys : List Row). r ∷ ys) (after_all r.path xs after)
        ∙ ap (λ (y : Row). y ∷ xs) (sym (let k : x ≡ r = cc in k))
    by_order Greater e more =
        let back : bytes_cmp r.path x.path ≡ Less = nat_list_cmp_total.antisymm r.path x.path ∙ ap ordering_reverse e in
        let none : None ≡ Some r = sym (none_after r.path (x ∷ xs) (back, after_further r.path x.path xs back (order_first x xs o))) ∙ h in
        absurd cc

-- ---- each item is found at its path

abbrev pub FoundIn : List Placed → Placed → Type 0
FoundIn items i = item_at items i.row.path ≡ Some i

lift : (x : Placed) (xs ys : List Placed) → AreAfter x.row.path ys → AllByRecursion (FoundIn xs) ys → AllByRecursion (FoundIn (x ∷ xs)) ys
lift x xs [] a h = tt
lift x xs (y ∷ ys) a h = (ap (λ b. cond b (Some x) (item_at xs y.row.path)) (less_same y.row.path x.row.path a.0) ∙ h.0, lift x xs ys a.1 h.1)

pub self_found : (items : List Placed) → AreItemsInOrder items → AllByRecursion (FoundIn items) items
self_found [] o = tt
self_found (i ∷ is) o = (
  ap (λ b. cond b (Some i) (item_at is i.row.path)) (itself i.row.path),
  lift i is is (items_first i is o) (self_found is (items_rest i is o)),
)

all_same : (old is : List Placed) → AllByRecursion (FoundIn old) is → is ≡ map (placed_by old) (rows_of is)
all_same old [] h = refl
all_same old (i ∷ is) h =
    ap (λ (xs : List Placed). i ∷ xs) (all_same old is h.1)
    ∙ ap (λ (o : Option Placed). (record { row = i.row; list = list_if o; own = own_mark_if o }) ∷ map (placed_by old) (rows_of is)) (sym h.0)

pub marked_itself : (items : List Placed) → AreItemsInOrder items → AreMarkedBy items items
marked_itself items o = all_same items items (self_found items o)

-- an item that is there already
pub put_again : (items : List Placed) (i : Placed) → AreItemsInOrder items → item_at items i.row.path ≡ Some i → put_item items i ≡ items
put_again items i o e =
    let f = placed_by items in
    let is : f i.row ≡ i = ap (λ (x : Option Placed). record { row = i.row; list = list_if x; own = own_mark_if x }) e in
    let row : row_at (rows_of items) i.row.path ≡ Some i.row = sym (found_rows items i.row.path) ∙ ap (option_map row_of) e in
    ap (put_item items) (sym is)
    ∙ marked_put items items i.row (marked_itself items o)
    ∙ ap (map f) (rows_put items (f i.row) ∙ put_same (rows_of items) i.row (rows_order items o) row)
    ∙ sym (marked_itself items o)

-- ---- the row of an item that is found

pub row_found : (items : List Placed) (p : List ℕ) (i : Placed) (r : Row) → item_at items p ≡ Some i → r ≡ i.row → Some r ≡ row_at (rows_of items) p
row_found items p i r e k = ap (λ (x : Row). Some x) k ∙ sym (ap (option_map row_of) e) ∙ found_rows items p

pub row_none : (items : List Placed) (p : List ℕ) → item_at items p ≡ None → None ≡ row_at (rows_of items) p
row_none items p e = sym (ap (option_map row_of) e) ∙ found_rows items p
