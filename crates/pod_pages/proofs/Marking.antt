-- Items while they are marked anew.
use Rattle.std.proofs.Common.{◌≡◌, ◌||◌, ◌+◌, ◌<◌, ℕ, Bool, true, false, cond, List, [], ◌∷◌, ◌++◌, length, take, get_or, Some, None, refl, sym, ap, ◌∙◌, subst, inl, inr, ◌⊎◌, ⊎_elim}
use Rattle.std.specs.Prelude.{is_some, bytes_eq, nat_eq}
use Rattle.std.specs.List.{list_any, starts_with}
use Rattle.std.proofs.lemmas.Bool.{true≢false, false≢true, or_parts}
use Rattle.std.proofs.lemmas.List.{take_more}
use Rattle.std.proofs.lemmas.Slice.Eq.{bytes_eq-Decides}
use Rattle.pod_rows.specs.Pod.{is_row}
use Rattle.row_pages.specs.Items.{Placed, AreItemsInOrder, item_at, items_below, put_item, rows_of}
use Rattle.pod_pages.specs.Marks.{mark, path_mark, with_mark}
use Rattle.pod_pages.specs.Numbering.{AreMarked, HaveMarks, IsMarked, is_below}
use Rattle.pod_pages.specs.declared.row_marks.Mark.{Mark}
use Rattle.pod_pages.proofs.Found.{find_kept, found_path}
use Rattle.pod_pages.proofs.Listing.{path_of, remarked, remarked_beside, remarked_found, remarked_rows}
use Rattle.pod_pages.proofs.Placing.{found_is, put_again}

abbrev pub Tests : Type 0
Tests = List ℕ → Bool

-- fewer are told to be done
pub fewer : (numbers : List Placed) (done less : Tests) (items : List Placed) → ((p : List ℕ) → done p ≡ false → less p ≡ false) → AreMarked numbers done items → AreMarked numbers less items
fewer numbers done less items f a = record {
  rows = a.rows;
  marks = λ p i e. ⊎_elim (λ m. inl m) (λ k. inr (f p k.0, k.1)) (a.marks p i e);
}

-- fewer are told to be done, of those that are items
pub fewer_items : (numbers : List Placed) (done less : Tests) (items : List Placed) → ((p : List ℕ) (i : Placed) → item_at numbers p ≡ Some i → done p ≡ false → less p ≡ false) → AreMarked numbers done items → AreMarked numbers less items
fewer_items numbers done less items f a = record {
  rows = a.rows;
  marks = λ p i e. ⊎_elim (λ m. inl m) (λ k. inr (f p i k.1 k.0, k.1)) (a.marks p i e);
}

pub none_done : (numbers : List Placed) → AreMarked numbers (λ p. false) numbers
none_done numbers = record { rows = refl; marks = λ p i e. inr (refl, e) }

pub marks_shared : (numbers : List Placed) (done : Tests) (items items' : List Placed) → items' ≡ items → AreMarked numbers done items → AreMarked numbers done items'
marks_shared numbers done items items' e a = subst (AreMarked numbers done) (sym e) a

-- one more path is done, where the item there is marked and the others stay
marked_here : (numbers : List Placed) (done : Tests) (items items' : List Placed) (path : List ℕ) → rows_of items' ≡ rows_of items
    → ((p : List ℕ) → bytes_eq path p ≡ false → item_at items' p ≡ item_at items p) → ((x : Placed) → item_at items' path ≡ Some x → IsMarked numbers path x)
    → AreMarked numbers done items → AreMarked numbers (λ p. bytes_eq path p || done p) items'
marked_here numbers done items items' path same others here a = record { rows = same ∙ a.rows; marks = λ p x f. by_test p x f (bytes_eq path p) refl }
  where
    by_test : (p : List ℕ) (x : Placed) → item_at items' p ≡ Some x → (t : Bool) → bytes_eq path p ≡ t → IsMarked numbers p x ⊎ (((t || done p) ≡ false) × (item_at numbers p ≡ Some x))
    by_test p x f true h =
        let is : path ≡ p = (bytes_eq-Decides path p).0 h in
        inl (subst (λ (q : List ℕ). IsMarked numbers q x) is (here x (ap (item_at items') is ∙ f)))
    by_test p x f false h = a.marks p x (sym (others p h) ∙ f)

-- a path without an item
pub marked_none : (numbers : List Placed) (done : Tests) (items items' : List Placed) (path : List ℕ) → item_at items path ≡ None → items' ≡ items → AreMarked numbers done items
    → AreMarked numbers (λ p. bytes_eq path p || done p) items'
marked_none numbers done items items' path none is a = marked_here numbers done items items' path (ap rows_of is) (λ p h. ap (λ (xs : List Placed). item_at xs p) is) none_here a
  where
    none_here : (x : Placed) → item_at items' path ≡ Some x → IsMarked numbers path x
    none_here x f = let both : None ≡ Some x = sym none ∙ ap (λ (xs : List Placed). item_at xs path) (sym is) ∙ f in absurd cc

-- a path without a mark is that of no row
pub marked_lost : (numbers items : List Placed) (path : List ℕ) (i : Placed) → HaveMarks numbers → rows_of items ≡ rows_of numbers → item_at items path ≡ Some i → path_mark numbers path ≡ None → ⊥
marked_lost numbers items path i have same e none =
    false≢true (sym (ap is_some none) ∙ have path (ap (λ rs. is_row rs path) (sym same) ∙ sym (found_is items path) ∙ ap is_some e))

-- an item that has the mark already is put as it is
pub put_has : (items : List Placed) (i : Placed) (m : Mark) → AreItemsInOrder items → item_at items i.row.path ≡ Some i → mark i.list i.own ≡ m → items ≡ put_item items (with_mark i (Some m))
put_has items i m o e has = sym (put_again items i o e) ∙ ap (λ (y : Mark). put_item items (with_mark i (Some y))) has

-- an item is found at its path
pub found_self : (items : List Placed) (path : List ℕ) (i : Placed) → item_at items path ≡ Some i → item_at items i.row.path ≡ Some i
found_self items path i e = ap (item_at items) (found_path path_of items path i e) ∙ e

-- an item with a mark
pub marked_new : (numbers : List Placed) (done : Tests) (items items' : List Placed) (path : List ℕ) (i : Placed) (m : Mark) → AreItemsInOrder items → item_at items path ≡ Some i
    → path_mark numbers path ≡ Some m → items' ≡ put_item items (remarked i m.list m.own) → AreMarked numbers done items → AreMarked numbers (λ p. bytes_eq path p || done p) items'
marked_new numbers done items items' path i m o e k new a =
    marked_here numbers done items items' path
    (ap rows_of new ∙ remarked_rows items path i m.list m.own o e)
    (λ p h. ap (λ (xs : List Placed). item_at xs p) new ∙ remarked_beside items path i m.list m.own p e h)
    new_here a
  where
    found : item_at items' path ≡ Some (remarked i m.list m.own)
    found =
        ap (λ (xs : List Placed). item_at xs path) new
        ∙ remarked_found items path i m.list m.own path e
        ∙ ap (λ (t : Bool). cond t (Some (remarked i m.list m.own)) (item_at items path)) ((bytes_eq-Decides path path).1 refl)

    new_here : (x : Placed) → item_at items' path ≡ Some x → IsMarked numbers path x
    new_here x f =
        let both : Some (remarked i m.list m.own) ≡ Some x = sym found ∙ f in
        let one : remarked i m.list m.own ≡ x = cc in
        k ∙ ap (λ (y : Placed). Some (mark y.list y.own)) one

-- ---- one more of a list

or_step : (a b c : Bool) → (a || (b || c)) ≡ false → (a ≡ false) × (b ≡ false) × (c ≡ false)
or_step a b c h =
    let outer = or_parts a (b || c) h in
    let inner = or_parts b c outer.1 in
    (outer.0, inner.0, inner.1)

any_append : {X : Type 0} (p : X → Bool) (xs ys : List X) → list_any p xs ≡ false → list_any p ys ≡ false → list_any p (xs ++ ys) ≡ false
any_append p [] ys h k = k
any_append p (x ∷ xs) ys h k =
    let parts = or_parts (p x) (list_any p xs) h in
    ap (λ (b : Bool). b || list_any p (xs ++ ys)) parts.0 ∙ any_append p xs ys parts.1 k

pub any_more : {X : Type 0} (p : X → Bool) (xs : List X) (i : ℕ) (x : X) → i < length xs → x ≡ get_or xs i x → list_any p (take i xs) ≡ false → p x ≡ false → list_any p (take (i + 1) xs) ≡ false
any_more p xs i x lt e h k =
    ap (list_any p) (take_more xs i x lt)
    ∙ any_append p (take i xs) (get_or xs i x ∷ []) h (ap (λ (b : Bool). b || false) (ap p (sym e) ∙ k))

-- marks of a test that has more to do, in a list that is done up to an element
pub marked_more : {X : Type 0} (numbers : List Placed) (done : Tests) (test : List ℕ → X → Bool) (xs : List X) (i : ℕ) (x : X) (items : List Placed) → i < length xs → x ≡ get_or xs i x
    → AreMarked numbers (λ p. test p x || (list_any (test p) (take i xs) || done p)) items → AreMarked numbers (λ p. list_any (test p) (take (i + 1) xs) || done p) items
marked_more numbers done test xs i x items lt e a =
    fewer numbers (λ p. test p x || (list_any (test p) (take i xs) || done p)) (λ p. list_any (test p) (take (i + 1) xs) || done p) items
    (λ p h.
    let parts = or_step (test p x) (list_any (test p) (take i xs)) (done p) h in
    ap (λ (b : Bool). b || done p) (any_more (test p) xs i x lt e parts.1 parts.0) ∙ parts.2)
    a

-- items as a list of paths
pub found_any : (items : List Placed) (p : List ℕ) → list_any (λ (i : Placed). bytes_eq i.row.path p) items ≡ is_some (item_at items p)
found_any [] p = refl
found_any (i ∷ is) p = by_test (bytes_eq i.row.path p) (found_any is p)
  where
    by_test : (b : Bool) → list_any (λ (x : Placed). bytes_eq x.row.path p) is ≡ is_some (item_at is p) → (b || list_any (λ (x : Placed). bytes_eq x.row.path p) is) ≡ is_some (cond b (Some i) (item_at is p))
    by_test true more = refl
    by_test false more = more

-- the items below a text
pub marked_under : (numbers : List Placed) (done : Tests) (s : List ℕ) (items : List Placed) → AreMarked numbers (λ p. is_some (item_at (items_below numbers s) p) || done p) items
    → AreMarked numbers (λ p. starts_with nat_eq p s || done p) items
marked_under numbers done s items a =
    fewer_items numbers (λ p. is_some (item_at (items_below numbers s) p) || done p) (λ p. starts_with nat_eq p s || done p) items
    (λ p i e h. by_parts p i e (or_parts (is_some (item_at (items_below numbers s) p)) (done p) h))
    a
  where
    by_below : (p : List ℕ) (i : Placed) → item_at numbers p ≡ Some i → (t : Bool) → starts_with nat_eq p s ≡ t → is_some (cond t (item_at numbers p) None) ≡ false → t ≡ false
    by_below p i e true h k = absurd (true≢false (sym (ap is_some e) ∙ k))
    by_below p i e false h k = refl

    by_parts : (p : List ℕ) (i : Placed) → item_at numbers p ≡ Some i → (is_some (item_at (items_below numbers s) p) ≡ false) × (done p ≡ false) → (starts_with nat_eq p s || done p) ≡ false
    by_parts p i e parts =
        let kept : item_at (items_below numbers s) p ≡ cond (starts_with nat_eq p s) (item_at numbers p) None = find_kept path_of (λ (q : List ℕ). starts_with nat_eq q s) p numbers in
        ap (λ (b : Bool). b || done p) (by_below p i e (starts_with nat_eq p s) refl (sym (ap is_some kept) ∙ parts.0)) ∙ parts.1

pub marked_found : (numbers : List Placed) (done : Tests) (xs items : List Placed) → AreMarked numbers (λ p. list_any (λ (i : Placed). bytes_eq i.row.path p) xs || done p) items
    → AreMarked numbers (λ p. is_some (item_at xs p) || done p) items
marked_found numbers done xs items a =
    fewer numbers (λ p. list_any (λ (i : Placed). bytes_eq i.row.path p) xs || done p) (λ p. is_some (item_at xs p) || done p) items (λ p h. ap (λ (b : Bool). b || done p) (sym (found_any xs p)) ∙ h) a

-- one more step of each loop
pub items_step : (numbers : List Placed) (done : Tests) (xs : List Placed) (i : ℕ) (x : Placed) (path : List ℕ) (items : List Placed) → i < length xs → x ≡ get_or xs i x → path ≡ x.row.path
    → AreMarked numbers (λ p. bytes_eq path p || (list_any (λ (y : Placed). bytes_eq y.row.path p) (take i xs) || done p)) items
    → AreMarked numbers (λ p. list_any (λ (y : Placed). bytes_eq y.row.path p) (take (i + 1) xs) || done p) items
items_step numbers done xs i x path items lt e is a =
    marked_more numbers done (λ p y. bytes_eq y.row.path p) xs i x items lt e
    (subst (λ (q : List ℕ). AreMarked numbers (λ p. bytes_eq q p || (list_any (λ (y : Placed). bytes_eq y.row.path p) (take i xs) || done p)) items) is a)

pub below_step : (numbers : List Placed) (done : Tests) (subjects : List (List ℕ)) (i : ℕ) (s : List ℕ) (below items : List Placed) → i < length subjects → s ≡ get_or subjects i s
    → below ≡ items_below numbers s → AreMarked numbers (λ p. is_some (item_at below p) || (is_below (take i subjects) p || done p)) items
    → AreMarked numbers (λ p. is_below (take (i + 1) subjects) p || done p) items
below_step numbers done subjects i s below items lt e is a =
    marked_more numbers done (λ p t. starts_with nat_eq p t) subjects i s items lt e
    (marked_under numbers (λ p. is_below (take i subjects) p || done p) s items
    (subst (λ (xs : List Placed). AreMarked numbers (λ p. is_some (item_at xs p) || (is_below (take i subjects) p || done p)) items) is a))
