-- Paths that begin with a text, and where they are among items in order.
use Rattle.std.proofs.Common.{subst, ◌≡◌, ℕ, Bool, true, false, cond, List, [], ◌∷◌, ◌++◌, length, take, drop, Some, refl, sym, ap, ◌∙◌, append_assoc}
use Rattle.std.specs.Prelude.{nat_eq}
use Rattle.std.specs.Cmp.Lexicographic.{bytes_decides}
use Rattle.std.specs.List.{flat_map, starts_with}
use Rattle.std.specs.Ordering.{nat_cmp, ordering_reverse, ordering_then}
use Rattle.std.specs.declared.cmp.Ordering.{Ordering}
use Rattle.std.specs.declared.cmp.Ordering.TheVariants.{Less, Equal, Greater}
use Rattle.std.proofs.lemmas.Bool.{false_from_ne_true}
use Rattle.std.proofs.lemmas.Cmp.{nat_cmp_total, tied_itself}
use Rattle.std.proofs.lemmas.List.{append-nil, take-append-drop}
use Rattle.std.proofs.lemmas.Map.Lookups.{exact_unsigned}
use Rattle.rdf_graph.specs.Triple.{bytes_cmp}
use Rattle.row_pages.specs.Borders.{first_begins, AreBefore, AreAfter}
use Rattle.row_pages.specs.Items.{Placed, AreItemsInOrder, begins_with, items_below}
use Rattle.row_pages.proofs.Ordered.{order_first, order_right, after_right}
use Rattle.row_pages.proofs.Around.{items_around}

-- what a text that begins with another one is
pub begun : (a p : List ℕ) → starts_with nat_eq a p ≡ true → a ≡ p ++ drop (length p) a
begun a p h = sym (take-append-drop (length p) a) ∙ ap (λ (x : List ℕ). x ++ drop (length p) a) (sym ((bytes_decides p (take (length p) a)).0 h))

-- a text isn't before one that it begins with
pub not_less : (p r : List ℕ) → bytes_cmp (p ++ r) p ≡ Less → ⊥
not_less [] [] h = absurd cc
not_less [] (x ∷ xs) h = absurd cc
not_less (c ∷ ps) r h = not_less ps r (sym (ap (λ o. ordering_then o (bytes_cmp (ps ++ r) ps)) (tied_itself nat_cmp_total c)) ∙ h)

pub less_begins : (a p : List ℕ) → bytes_cmp a p ≡ Less → starts_with nat_eq a p ≡ false
less_begins a p h =
    false_from_ne_true (starts_with nat_eq a p)
    (λ t. not_less p (drop (length p) a) (ap (λ (x : List ℕ). bytes_cmp x p) (sym (begun a p t)) ∙ h))

-- a text between p and one that begins with p begins with p
between : (p a r : List ℕ) → bytes_cmp p a ≡ Less → bytes_cmp a (p ++ r) ≡ Less → (s : List ℕ) × (a ≡ p ++ s)
between [] a r h k = (a, refl)
between (c ∷ ps) [] r h k = absurd cc
between (c ∷ ps) (d ∷ ds) r h k = by_order (nat_cmp c d) refl (between ps ds r)
  where
    by_order : (o : Ordering) → nat_cmp c d ≡ o → (bytes_cmp ps ds ≡ Less → bytes_cmp ds (ps ++ r) ≡ Less → (s : List ℕ) × (ds ≡ ps ++ s)) → (s : List ℕ) × (d ∷ ds ≡ (c ∷ ps) ++ s)
    by_order Less e next =
        let back : nat_cmp d c ≡ Greater = nat_cmp_total.antisymm d c ∙ ap ordering_reverse e in
        let never : Greater ≡ Less = sym (ap (λ o. ordering_then o (bytes_cmp ds (ps ++ r))) back) ∙ k in
        absurd cc
    by_order Equal e next =
        let back : nat_cmp d c ≡ Equal = nat_cmp_total.antisymm d c ∙ ap ordering_reverse e in
        let more = next (sym (ap (λ o. ordering_then o (bytes_cmp ps ds)) e) ∙ h) (sym (ap (λ o. ordering_then o (bytes_cmp ds (ps ++ r))) back) ∙ k) in
        (more.0, ap (λ (x : ℕ). x ∷ ds) (sym (exact_unsigned c d e)) ∙ ap (λ (xs : List ℕ). c ∷ xs) more.1)
    by_order Greater e next =
        let never : Greater ≡ Less = sym (ap (λ o. ordering_then o (bytes_cmp ps ds)) e) ∙ h in
        absurd cc

pub begins_from : (p s : List ℕ) → starts_with nat_eq (p ++ s) p ≡ true
begins_from p s = (bytes_decides p (take (length p) (p ++ s))).1 (sym (taken p s))
  where
    taken : (p s : List ℕ) → take (length p) (p ++ s) ≡ p
    taken [] s = refl
    taken (c ∷ cs) s = ap (λ (x : List ℕ). c ∷ x) (taken cs s)

pub past : (p a b : List ℕ) → bytes_cmp p a ≡ Less → starts_with nat_eq a p ≡ false → bytes_cmp a b ≡ Less → starts_with nat_eq b p ≡ false
past p a b h n l =
    false_from_ne_true (starts_with nat_eq b p)
    (λ t. let m = between p a (drop (length p) b) h (ap (bytes_cmp a) (sym (begun b p t)) ∙ l) in
    never (sym (ap (λ (x : List ℕ). starts_with nat_eq x p) m.1 ∙ begins_from p m.0) ∙ n))
  where
    never : true ≡ false → ⊥
    never e = absurd cc

-- ---- items

none_below : (p : List ℕ) (xs : List Placed) → AreBefore p xs → items_below xs p ≡ []
none_below p [] h = refl
none_below p (x ∷ xs) h = ap (λ b. cond b (x ∷ items_below xs p) (items_below xs p)) (less_begins x.row.path p h.0) ∙ none_below p xs h.1

pub below_append : (p : List ℕ) (xs ys : List Placed) → items_below (xs ++ ys) p ≡ items_below xs p ++ items_below ys p
below_append p [] ys = refl
below_append p (x ∷ xs) ys =
    ap (λ zs. cond (begins_with p x) (x ∷ zs) zs) (below_append p xs ys) ∙ by_test (begins_with p x)
  where
    by_test : (b : Bool) → cond b (x ∷ (items_below xs p ++ items_below ys p)) (items_below xs p ++ items_below ys p) ≡ cond b (x ∷ items_below xs p) (items_below xs p) ++ items_below ys p
    by_test true = refl
    by_test false = refl

-- where the first path is after the text and doesn't begin with it, none does
pub past_all : (p : List ℕ) (i : Placed) (is : List Placed) → bytes_cmp p i.row.path ≡ Less → starts_with nat_eq i.row.path p ≡ false → AreItemsInOrder (i ∷ is) → items_below (i ∷ is) p ≡ []
past_all p i is h n o = ap (λ b. cond b (i ∷ items_below is p) (items_below is p)) n ∙ rest is (order_first i is o)
  where
    rest : (js : List Placed) → AreAfter i.row.path js → items_below js p ≡ []
    rest [] a = refl
    rest (j ∷ js) a = ap (λ b. cond b (j ∷ items_below js p) (items_below js p)) (past p i.row.path j.row.path h n a.0) ∙ rest js a.1

pub below_around : {X : Type 0} (items : X → List Placed) (parts before after : List X) (part : X) (p : List ℕ) → parts ≡ before ++ part ∷ after → AreBefore p (flat_map items before)
    → items_below (flat_map items parts) p ≡ items_below (items part) p ++ items_below (flat_map items after) p
below_around items parts before after part p e a =
    ap (λ is. items_below is p) (ap (flat_map items) e ∙ items_around items before after part)
    ∙ below_append p (flat_map items before) (items part ++ flat_map items after)
    ∙ ap (λ is. is ++ items_below (items part ++ flat_map items after) p) (none_below p (flat_map items before) a)
    ∙ below_append p (items part) (flat_map items after)

-- ---- parts after a text

below_first : {X : Type 0} (items : X → List Placed) (parts rest : List X) (part : X) (p : List ℕ) → parts ≡ part ∷ rest → items_below (flat_map items parts) p ≡ items_below (items part) p ++ items_below (flat_map items rest) p
below_first items parts rest part p e = ap (λ ps. items_below (flat_map items ps) p) e ∙ below_append p (items part) (flat_map items rest)

some_is : (b c : Bool) → Some b ≡ Some c → b ≡ c
some_is b c e = cc

pub past_part : {X : Type 0} (items : X → List Placed) (parts rest : List X) (part : X) (p : List ℕ) → parts ≡ part ∷ rest → AreItemsInOrder (flat_map items parts) → AreAfter p (flat_map items parts)
    → first_begins p (items part) ≡ Some false → (old : List Placed) → old ≡ old ++ items_below (flat_map items parts) p
past_part items parts rest part p e o a f old =
    sym (append-nil old) ∙ ap (λ is. old ++ is) (sym (ap (λ ps. items_below (flat_map items ps) p) e ∙ by_first (items part) (subst AreItemsInOrder (ap (flat_map items) e) o) (subst (AreAfter p) (ap (flat_map items) e) a) f))
  where
    by_first : (is : List Placed) → AreItemsInOrder (is ++ flat_map items rest) → AreAfter p (is ++ flat_map items rest) → first_begins p is ≡ Some false → items_below (is ++ flat_map items rest) p ≡ []
    by_first [] o a f = absurd cc
    by_first (i ∷ is) o a f = past_all p i (is ++ flat_map items rest) a.0 (some_is (starts_with nat_eq i.row.path p) false f) o

pub below_step : {X : Type 0} (items : X → List Placed) (parts rest : List X) (part : X) (p : List ℕ) (old mid new : List Placed) → parts ≡ part ∷ rest → mid ≡ old ++ items_below (items part) p
    → new ≡ mid ++ items_below (flat_map items rest) p → new ≡ old ++ items_below (flat_map items parts) p
below_step items parts rest part p old mid new e m n =
    n ∙ ap (λ is. is ++ items_below (flat_map items rest) p) m ∙ append_assoc old (items_below (items part) p) (items_below (flat_map items rest) p)
    ∙ ap (λ is. old ++ is) (sym (below_first items parts rest part p e))

pub order_after_first : {X : Type 0} (items : X → List Placed) (parts rest : List X) (part : X) → parts ≡ part ∷ rest → AreItemsInOrder (flat_map items parts) → AreItemsInOrder (flat_map items rest)
order_after_first items parts rest part e o = order_right (items part) (flat_map items rest) (subst AreItemsInOrder (ap (flat_map items) e) o)

pub after_first_part : {X : Type 0} (items : X → List Placed) (parts rest : List X) (part : X) (p : List ℕ) → parts ≡ part ∷ rest → AreAfter p (flat_map items parts) → AreAfter p (flat_map items rest)
after_first_part items parts rest part p e a = after_right p (items part) (flat_map items rest) (subst (AreAfter p) (ap (flat_map items) e) a)
