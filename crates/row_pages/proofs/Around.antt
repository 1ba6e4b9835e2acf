-- Where a path belongs among parts, and what a part changes of the whole.
use Rattle.std.proofs.Common.{subst, ◌≡◌, ◌+◌, ◌-◌, ◌*◌, ◌/◌, ◌<◌, ◌≤◌, ◌^◌, ◌==◌, ℕ, zero, suc, true, false, List, [], ◌∷◌, ◌++◌, length, Option, Some, refl, sym, ap, ◌∙◌, arith}
use Rattle.std.proofs.Common.{◌⊎◌, inl, inr}
use Rattle.std.specs.List.{flat_map, slice_get}
use Rattle.std.proofs.lemmas.Bool.{false≢true, not-true, eqb-false, cases_order}
use Rattle.std.proofs.lemmas.List.Concat.{flat_map-append}
use Rattle.rdf_graph.specs.Triple.{bytes_cmp}
use Rattle.row_pages.specs.Borders.{first_if, first_at, starts_by, starts_after, AreBefore, AreAfter}
use Rattle.row_pages.specs.Items.{Placed, AreItemsInOrder, first_of, is_before, item_at, put_item, remove_item}
use Rattle.row_pages.proofs.Ordered.{less_of, before_part, after_part, after_right, order_left, order_right, found_within, put_within, removed_within}

-- ---- halving

pub halves : (b s t : ℕ) → 0 < s → 2 * t ≤ s → s < 2 ^ b → (c : ℕ) × (b ≡ c + 1) × (t < 2 ^ c)
halves zero s t p h l = absurd (omega (arith, p, l))
halves (suc c) s t p h l = (c, omega arith, omega (arith, h, l))

-- ---- items of parts

pub items_around : {X : Type 0} (items : X → List Placed) (before after : List X) (part : X)
    → flat_map items (before ++ part ∷ after) ≡ flat_map items before ++ (items part ++ flat_map items after)
items_around items before after part = flat_map-append items before (part ∷ after)

pub order_around : {X : Type 0} (items : X → List Placed) (parts before after : List X) (part : X) → parts ≡ before ++ part ∷ after → AreItemsInOrder (flat_map items parts)
    → AreItemsInOrder (flat_map items before ++ (items part ++ flat_map items after))
order_around items parts before after part e o = subst AreItemsInOrder (ap (flat_map items) e ∙ items_around items before after part) o

pub order_part : {X : Type 0} (items : X → List Placed) (parts before after : List X) (part : X) → parts ≡ before ++ part ∷ after → AreItemsInOrder (flat_map items parts)
    → AreItemsInOrder (items part)
order_part items parts before after part e o =
    order_left (items part) (flat_map items after)
    (order_right (flat_map items before) (items part ++ flat_map items after) (order_around items parts before after part e o))

-- ---- the place of a path

got : {X : Type 0} (before after : List X) (part : X) → slice_get (before ++ part ∷ after) (length before) ≡ Some part
got [] after part = refl
got (x ∷ xs) after part = got xs after part

got_next : {X : Type 0} (before : List X) (part next : X) (after : List X) → slice_get (before ++ part ∷ next ∷ after) (suc (length before)) ≡ Some next
got_next [] part next after = refl
got_next (x ∷ xs) part next after = got_next xs part next after

by_first : (p : List ℕ) (xs is zs : List Placed) → starts_by p (first_of is) ≡ true → AreItemsInOrder (xs ++ (is ++ zs)) → AreBefore p xs
by_first p xs [] zs h o = absurd (false≢true h)
by_first p xs (i ∷ is) zs h o = before_part p xs i (is ++ zs) o (not-true (is_before p i.row.path) h)

after_first : (p : List ℕ) (is zs : List Placed) → starts_after p (first_of is) ≡ true → AreItemsInOrder (is ++ zs) → AreAfter p (is ++ zs)
after_first p [] zs h o = absurd (false≢true h)
after_first p (i ∷ is) zs h o = after_part p i (is ++ zs) o (less_of (bytes_cmp p i.row.path) h)

none_before : {X : Type 0} (items : X → List Placed) (p : List ℕ) (before : List X) → length before ≡ 0 → AreBefore p (flat_map items before)
none_before items p [] h = tt
none_before items p (x ∷ xs) h = absurd (omega (arith, h))

pub place_before : {X : Type 0} (items : X → List Placed) (parts before after : List X) (part : X) (place : ℕ) (p : List ℕ)
    → parts ≡ before ++ part ∷ after → length before ≡ place - 1 → AreItemsInOrder (flat_map items parts)
    → (0 < place → starts_by p (first_at items parts (place - 1)) ≡ true) → AreBefore p (flat_map items before)
place_before items parts before after part zero p e l o h = none_before items p before (omega (arith, l))
place_before items parts before after part (suc k) p e l o h =
    by_first p (flat_map items before) (items part) (flat_map items after)
    (ap (λ (o : Option (List ℕ)). starts_by p o) (sym (here items parts before after part e)) ∙ ap (λ n. starts_by p (first_at items parts n)) l ∙ h (omega arith))
    (order_around items parts before after part e o)
  where
    here : {X : Type 0} (items : X → List Placed) (parts before after : List X) (part : X) → parts ≡ before ++ part ∷ after → first_at items parts (length before) ≡ first_of (items part)
    here items parts before after part e =
        ap (λ xs. first_at items xs (length before)) e ∙ ap (λ o. first_if items o) (got before after part)

-- the parts from a place on
after_place : {X : Type 0} (items : X → List Placed) (before after : List X) (part : X) (place : ℕ) (p : List ℕ)
    → length before ≡ place - 1 → AreItemsInOrder (flat_map items before ++ (items part ++ flat_map items after))
    → (place < length (before ++ part ∷ after) → starts_after p (first_at items (before ++ part ∷ after) place) ≡ true) → AreAfter p (flat_map items after)
after_place items [] after part zero p l o h =
    after_right p (items part) (flat_map items after) (after_first p (items part) (flat_map items after) (h (omega arith)) o)
after_place items (x ∷ xs) after part zero p l o h = absurd (omega (arith, l))
after_place items before [] part (suc k) p l o h = tt
after_place items before (a ∷ more) part (suc k) p l o h =
    let same : suc (length before) ≡ suc k = omega (arith, l) in
    let within : suc k < length (before ++ part ∷ a ∷ more) = longer before part a more k same in
    let next : first_at items (before ++ part ∷ a ∷ more) (suc k) ≡ first_of (items a) =
    ap (λ n. first_at items (before ++ part ∷ a ∷ more) n) (sym same) ∙ ap (λ o. first_if items o) (got_next before part a more) in
    after_first p (items a) (flat_map items more) (ap (λ o. starts_after p o) (sym next) ∙ h within)
    (order_right (items part) (items a ++ flat_map items more) (order_right (flat_map items before) (items part ++ (items a ++ flat_map items more)) o))
  where
    longer : {X : Type 0} (before : List X) (part a : X) (more : List X) (k : ℕ) → suc (length before) ≡ suc k → suc k < length (before ++ part ∷ a ∷ more)
    longer [] part a more k e = omega (arith, e)
    longer (x ∷ xs) part a more zero e = absurd (omega (arith, e))
    longer (x ∷ xs) part a more (suc k) e = let l = longer xs part a more k (omega (arith, e)) in omega (arith, l)

pub place_after : {X : Type 0} (items : X → List Placed) (parts before after : List X) (part : X) (place : ℕ) (p : List ℕ)
    → parts ≡ before ++ part ∷ after → length before ≡ place - 1 → AreItemsInOrder (flat_map items parts)
    → (place < length parts → starts_after p (first_at items parts place) ≡ true) → AreAfter p (flat_map items after)
place_after items parts before after part place p e l o h =
    after_place items before after part place p l (order_around items parts before after part e o)
    (subst (λ ps. place < length ps → starts_after p (first_at items ps place) ≡ true) e h)

-- ---- what is found, put and removed there

pub found_around : {X : Type 0} (items : X → List Placed) (parts before after : List X) (part : X) (p : List ℕ)
    → parts ≡ before ++ part ∷ after → AreBefore p (flat_map items before) → AreAfter p (flat_map items after)
    → item_at (flat_map items parts) p ≡ item_at (items part) p
found_around items parts before after part p e a b =
    ap (λ is. item_at is p) (ap (flat_map items) e ∙ items_around items before after part) ∙ found_within p (flat_map items before) (items part) (flat_map items after) a b

pub put_around : {X : Type 0} (items : X → List Placed) (parts before after : List X) (part : X) (i : Placed)
    → parts ≡ before ++ part ∷ after → AreBefore i.row.path (flat_map items before) → AreAfter i.row.path (flat_map items after)
    → put_item (flat_map items parts) i ≡ flat_map items before ++ (put_item (items part) i ++ flat_map items after)
put_around items parts before after part i e a b =
    ap (λ is. put_item is i) (ap (flat_map items) e ∙ items_around items before after part) ∙ put_within i (flat_map items before) (items part) (flat_map items after) a b

pub removed_around : {X : Type 0} (items : X → List Placed) (parts before after : List X) (part : X) (p : List ℕ)
    → parts ≡ before ++ part ∷ after → AreBefore p (flat_map items before) → AreAfter p (flat_map items after)
    → remove_item (flat_map items parts) p ≡ flat_map items before ++ (remove_item (items part) p ++ flat_map items after)
removed_around items parts before after part p e a b =
    ap (λ is. remove_item is p) (ap (flat_map items) e ∙ items_around items before after part) ∙ removed_within p (flat_map items before) (items part) (flat_map items after) a b

-- ---- the cost of halving

positive : (low high : ℕ) → low ≤ high → (low == high) ≡ false → 0 < high - low
positive low high l e = by_order (cases_order low high)
  where
    by_order : (low ≡ high) ⊎ ((low < high) ⊎ (high < low)) → 0 < high - low
    by_order (inl s) = absurd (eqb-false low high e s)
    by_order (inr (inl s)) = omega (arith, s)
    by_order (inr (inr s)) = absurd (omega (arith, l, s))

pub cost_low : (b low high old mid new : ℕ) → low ≤ high → (low == high) ≡ false → mid ≡ old + 1 → ((d : ℕ) → (low + (high - low) / 2) - low < 2 ^ d → new ≤ mid + d) → high - low < 2 ^ b → new ≤ old + b
cost_low b low high old mid new l e m r h =
    let p = positive low high l e in
    let d = halves b (high - low) ((low + (high - low) / 2) - low) p (omega arith) h in
    let more = r d.0 d.2 in
    let one = d.1 in
    omega (arith, m, more, one)

pub cost_high : (b low high old mid new : ℕ) → low ≤ high → (low == high) ≡ false → mid ≡ old + 1 → ((d : ℕ) → high - (low + (high - low) / 2 + 1) < 2 ^ d → new ≤ mid + d) → high - low < 2 ^ b → new ≤ old + b
cost_high b low high old mid new l e m r h =
    let p = positive low high l e in
    let d = halves b (high - low) (high - (low + (high - low) / 2 + 1)) p (omega (arith, p)) h in
    let more = r d.0 d.2 in
    let one = d.1 in
    omega (arith, m, more, one)

pub order_after_part : {X : Type 0} (items : X → List Placed) (parts before after : List X) (part : X) → parts ≡ before ++ part ∷ after → AreItemsInOrder (flat_map items parts)
    → AreItemsInOrder (flat_map items after)
order_after_part items parts before after part e o =
    order_right (items part) (flat_map items after)
    (order_right (flat_map items before) (items part ++ flat_map items after) (order_around items parts before after part e o))
