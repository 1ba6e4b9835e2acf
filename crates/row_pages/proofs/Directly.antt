-- The items directly below a text, from one part to the next.
use Rattle.std.proofs.Common.{◌≡◌, ℕ, Bool, true, false, not, cond, ◌&&◌, inl, inr, List, [], ◌∷◌, ◌++◌, length, drop, Some, refl, sym, ap, subst, ◌∙◌, append_assoc}
use Rattle.std.specs.Prelude.{nat_eq}
use Rattle.std.specs.List.{flat_map, starts_with}
use Rattle.std.specs.Ordering.{is_lt, ordering_reverse}
use Rattle.std.specs.declared.cmp.Ordering.{Ordering}
use Rattle.std.specs.declared.cmp.Ordering.TheVariants.{Less, Equal, Greater}
use Rattle.std.proofs.lemmas.Bool.{false_from_ne_true}
use Rattle.std.proofs.lemmas.Cmp.{nat_list_cmp_total}
use Rattle.std.proofs.lemmas.List.{append-nil}
use Rattle.rdf_graph.specs.Triple.{bytes_cmp}
use Rattle.row_pages.specs.Borders.{AreAfter, AreBefore}
use Rattle.row_pages.specs.Delimited.{is_direct, is_one_part, items_direct}
use Rattle.row_pages.specs.Items.{Placed, AreItemsInOrder, begins_with, first_item, is_before}
use Rattle.row_pages.specs.Seeks.{IsListed, IsNextText, IsRaised, items_from, starts_below}
use Rattle.row_pages.proofs.Around.{items_around}
use Rattle.row_pages.proofs.Below.{begun, begins_from, less_begins, not_less, past}
use Rattle.row_pages.proofs.Ordered.{after_right, less_back, less_by, less_of, order_first, order_right, same_path}

-- ---- items that are passed

-- a path from a text on that doesn't begin with what the text begins with is after it
past_prefix : (prefix text path : List ℕ) → starts_with nat_eq text prefix ≡ true → is_before path text ≡ false → starts_with nat_eq path prefix ≡ false → bytes_cmp prefix path ≡ Less
past_prefix prefix text path b h n = by_order (bytes_cmp prefix path) refl
  where
    never : true ≡ false → ⊥
    never e = absurd cc

    from : is_before text prefix ≡ false
    from = false_from_ne_true (is_before text prefix) (λ t. not_less prefix (drop (length prefix) text) (ap (λ (x : List ℕ). bytes_cmp x prefix) (sym (begun text prefix b)) ∙ less_of (bytes_cmp text prefix) t))

    by_order : (o : Ordering) → bytes_cmp prefix path ≡ o → bytes_cmp prefix path ≡ Less
    by_order Less e = e
    by_order Equal e = absurd (never (sym (ap (λ (x : List ℕ). starts_with nat_eq x prefix) (sym (same_path prefix path e) ∙ sym (append-nil prefix)) ∙ begins_from prefix []) ∙ n))
    by_order Greater e =
        let less : bytes_cmp path prefix ≡ Less = nat_list_cmp_total.antisymm path prefix ∙ ap ordering_reverse e in
        absurd (never (sym (ap is_lt (less_by path prefix text less from)) ∙ h))

not_direct : (prefix path : List ℕ) → starts_with nat_eq path prefix ≡ false → is_direct prefix path ≡ false
not_direct prefix path n = ap (λ b. b && is_one_part (drop (length prefix) path)) n

-- of an item that isn't directly below, nothing is listed
none_of : (prefix text : List ℕ) (i : Placed) (js : List Placed) → is_direct prefix i.row.path ≡ false → items_direct (items_from (i ∷ js) text) prefix ≡ items_direct (items_from js text) prefix
none_of prefix text i js n = by_test (is_before i.row.path text)
  where
    by_test : (b : Bool) → items_direct (cond (not b) (i ∷ items_from js text) (items_from js text)) prefix ≡ items_direct (items_from js text) prefix
    by_test true = refl
    by_test false = ap (λ b. cond b (i ∷ items_direct (items_from js text) prefix) (items_direct (items_from js text) prefix)) n

none_past : (prefix text : List ℕ) (i : Placed) (js : List Placed) → AreAfter i.row.path js → bytes_cmp prefix i.row.path ≡ Less → begins_with prefix i ≡ false → items_direct (items_from js text) prefix ≡ []
none_past prefix text i [] a l n = refl
none_past prefix text i (j ∷ js) a l n = none_of prefix text j js (not_direct prefix j.row.path (past prefix i.row.path j.row.path l n a.0)) ∙ none_past prefix text i js a.1 l n

passed_before : (text : List ℕ) (xs zs : List Placed) → AreBefore text xs → items_from (xs ++ zs) text ≡ items_from zs text
passed_before text [] zs h = refl
passed_before text (x ∷ xs) zs h = ap (λ b. cond (not b) (x ∷ items_from (xs ++ zs) text) (items_from (xs ++ zs) text)) (ap is_lt h.0) ∙ passed_before text xs zs h.1

kept_first : (text : List ℕ) (i : Placed) (js : List Placed) → is_before i.row.path text ≡ false → items_from (i ∷ js) text ≡ i ∷ items_from js text
kept_first text i js f = ap (λ b. cond (not b) (i ∷ items_from js text) (items_from js text)) f

-- ---- one item

raised_same : (prefix old new : List ℕ) (i : Placed) (js : List Placed) → IsNextText prefix i.row.path new → is_before i.row.path old ≡ false → AreAfter i.row.path js → items_direct (items_from js new) prefix ≡ items_direct (items_from js old) prefix
raised_same prefix old new i [] n f a = refl
raised_same prefix old new i (j ∷ js) n f a = by_test (is_before j.row.path new) refl (raised_same prefix old new i js n f a.1) ∙ ap (λ (is : List Placed). items_direct is prefix) (sym (kept_first old j js from))
  where
    never : true ≡ false → ⊥
    never e = absurd cc

    from : is_before j.row.path old ≡ false
    from = false_from_ne_true (is_before j.row.path old) (λ t. never (sym (ap is_lt (nat_list_cmp_total.trans i.row.path j.row.path old a.0 (less_of (bytes_cmp j.row.path old) t))) ∙ f))

    by_test : (b : Bool) → is_before j.row.path new ≡ b → items_direct (items_from js new) prefix ≡ items_direct (items_from js old) prefix
        → items_direct (cond (not b) (j ∷ items_from js new) (items_from js new)) prefix ≡ items_direct (j ∷ items_from js old) prefix
    by_test true t e = e ∙ sym (ap (λ b. cond b (j ∷ items_direct (items_from js old) prefix) (items_direct (items_from js old) prefix)) (n.none j.row.path a.0 (less_of (bytes_cmp j.row.path new) t)))
    by_test false t e = ap (λ (is : List Placed). cond (is_direct prefix j.row.path) (j ∷ is) is) e

pub listed_before : (prefix old : List ℕ) (had : List Placed) (i : Placed) → starts_with nat_eq old prefix ≡ true → is_before i.row.path old ≡ true → IsListed prefix (i ∷ []) old had old had
listed_before prefix old had i b t = record {
  begins = b;
  whole = λ more o. ap (λ c. had ++ items_direct (cond (not c) (i ∷ items_from more old) (items_from more old)) prefix) (sym t);
}

pub listed_other : (prefix old : List ℕ) (had : List Placed) (i : Placed) → starts_with nat_eq old prefix ≡ true → begins_with prefix i ≡ false → IsListed prefix (i ∷ []) old had old had
listed_other prefix old had i b n = record {
  begins = b;
  whole = λ more o. ap (λ (is : List Placed). had ++ is) (sym (none_of prefix old i more (not_direct prefix i.row.path n)));
}

cond_both : (b : Bool) (x : Placed) (xs : List Placed) → cond b (x ∷ xs) xs ≡ cond b (x ∷ []) [] ++ xs
cond_both true x xs = refl
cond_both false x xs = refl

pub listed_one : (prefix old new : List ℕ) (had has : List Placed) (i : Placed) → starts_with nat_eq old prefix ≡ true → is_before i.row.path old ≡ false → has ≡ had ++ items_direct (i ∷ []) prefix
    → IsRaised prefix i.row.path old new → IsListed prefix (i ∷ []) old had new has
listed_one prefix old new had has i b f e r = record {
  begins = begins r;
  whole = λ more o.
      ap (λ (is : List Placed). is ++ items_direct (items_from more new) prefix) e
      ∙ append_assoc had (items_direct (i ∷ []) prefix) (items_direct (items_from more new) prefix)
      ∙ ap (λ (is : List Placed). had ++ (items_direct (i ∷ []) prefix ++ is)) (rest more (order_first i more o) r)
      ∙ ap (λ (is : List Placed). had ++ is) (sym (ap (λ (is : List Placed). items_direct is prefix) (kept_first old i more f) ∙ cond_both (is_direct prefix i.row.path) i (items_direct (items_from more old) prefix)));
}
  where
    begins : IsRaised prefix i.row.path old new → starts_with nat_eq new prefix ≡ true
    begins (inl same) = ap (λ (t : List ℕ). starts_with nat_eq t prefix) same ∙ b
    begins (inr next) = next.begins

    rest : (more : List Placed) → AreAfter i.row.path more → IsRaised prefix i.row.path old new → items_direct (items_from more new) prefix ≡ items_direct (items_from more old) prefix
    rest more a (inl same) = ap (λ (t : List ℕ). items_direct (items_from more t) prefix) same
    rest more a (inr next) = raised_same prefix old new i more next f a

-- ---- parts

pub below_first : {X : Type 0} (items : X → List Placed) (parts rest : List X) (part : X) (prefix : List ℕ) (i : Placed) → parts ≡ part ∷ rest → first_item (items part) ≡ Some i
    → begins_with prefix i ≡ starts_below prefix (flat_map items parts)
below_first items parts rest part prefix i e h = by_items (items part) h ∙ ap (λ ps. starts_below prefix (flat_map items ps)) (sym e)
  where
    by_items : (is : List Placed) → first_item is ≡ Some i → begins_with prefix i ≡ starts_below prefix (is ++ flat_map items rest)
    by_items [] h = absurd cc
    by_items (x ∷ xs) h = let same : i ≡ x = cc in ap (begins_with prefix) same

-- where the first part isn't before a text, those after it are after the text
pub after_first_from : {X : Type 0} (items : X → List Placed) (parts rest : List X) (part : X) (text : List ℕ) (i : Placed) → parts ≡ part ∷ rest → AreItemsInOrder (flat_map items parts) → first_item (items part) ≡ Some i
    → is_before i.row.path text ≡ false → AreAfter text (flat_map items rest)
after_first_from items parts rest part text i e o h f = by_items (items part) (subst AreItemsInOrder (ap (flat_map items) e) o) h
  where
    from : (p q : List ℕ) → is_before p text ≡ false → bytes_cmp p q ≡ Less → bytes_cmp text q ≡ Less
    from p q f l = by_order (bytes_cmp p text) refl
      where
        never : true ≡ false → ⊥
        never e = absurd cc

        by_order : (o : Ordering) → bytes_cmp p text ≡ o → bytes_cmp text q ≡ Less
        by_order Less e = absurd (never (sym (ap is_lt e) ∙ f))
        by_order Equal e = ap (λ (x : List ℕ). bytes_cmp x q) (sym (same_path p text e)) ∙ l
        by_order Greater e = nat_list_cmp_total.trans text p q (nat_list_cmp_total.antisymm text p ∙ ap ordering_reverse e) l

    all_from : (p : List ℕ) (js : List Placed) → is_before p text ≡ false → AreAfter p js → AreAfter text js
    all_from p [] f a = tt
    all_from p (j ∷ js) f a = (from p j.row.path f a.0, all_from p js f a.1)

    by_items : (is : List Placed) → AreItemsInOrder (is ++ flat_map items rest) → first_item is ≡ Some i → AreAfter text (flat_map items rest)
    by_items [] o h = absurd cc
    by_items (x ∷ xs) o h =
        let same : x ≡ i = cc in
        all_from x.row.path (flat_map items rest) (ap (λ (p : Placed). is_before p.row.path text) same ∙ f) (after_right x.row.path xs (flat_map items rest) (order_first x (xs ++ flat_map items rest) o))

pub listed_none : (prefix old : List ℕ) (had : List Placed) → starts_with nat_eq old prefix ≡ true → IsListed prefix [] old had old had
listed_none prefix old had b = record { begins = b; whole = λ more o. refl }

-- nothing is listed of items that don't start below the prefix
pub listed_past : (prefix old new : List ℕ) (is has : List Placed) → starts_with nat_eq old prefix ≡ true → starts_with nat_eq new prefix ≡ true → AreAfter old is → starts_below prefix is ≡ false → IsListed prefix is new has new has
listed_past prefix old new [] has b c a n = listed_none prefix new has c
listed_past prefix old new (i ∷ is) has b c a n = record {
  begins = c;
  whole = λ more o.
      let after : AreAfter i.row.path (is ++ more) = order_first i (is ++ more) o in
      let less : bytes_cmp prefix i.row.path ≡ Less = past_prefix prefix old i.row.path b (less_back old i.row.path a.0) n in
      ap (λ (js : List Placed). has ++ js) (
      none_past prefix new i more (after_right i.row.path is more after) less n
      ∙ sym (none_of prefix new i (is ++ more) (not_direct prefix i.row.path n) ∙ none_past prefix new i (is ++ more) after less n)
      );
}

pub listed_parts : {X : Type 0} (items : X → List Placed) (parts before after : List X) (part : X) (prefix old mid new : List ℕ) (had has all : List Placed) → parts ≡ before ++ part ∷ after → AreBefore old (flat_map items before)
    → IsListed prefix (items part) old had mid has → IsListed prefix (flat_map items after) mid has new all → IsListed prefix (flat_map items parts) old had new all
listed_parts items parts before after part prefix old mid new had has all e a first second = record {
  begins = second.begins;
  whole = λ more o.
      let split : flat_map items parts ++ more ≡ flat_map items before ++ (items part ++ (flat_map items after ++ more)) =
      ap (λ (is : List Placed). is ++ more) (ap (flat_map items) e ∙ items_around items before after part)
      ∙ append_assoc (flat_map items before) (items part ++ flat_map items after) more
      ∙ ap (λ (is : List Placed). flat_map items before ++ is) (append_assoc (items part) (flat_map items after) more) in
      let here : AreItemsInOrder (items part ++ (flat_map items after ++ more)) = order_right (flat_map items before) (items part ++ (flat_map items after ++ more)) (subst AreItemsInOrder split o) in
      second.whole more (order_right (items part) (flat_map items after ++ more) here)
      ∙ first.whole (flat_map items after ++ more) here
      ∙ ap (λ (is : List Placed). had ++ items_direct is prefix) (sym (ap (λ (is : List Placed). items_from is old) split ∙ passed_before old (flat_map items before) (items part ++ (flat_map items after ++ more)) a));
}

-- ---- the whole

-- no item that begins with a text is before it
all_from : (rows : List Placed) (prefix : List ℕ) → items_direct (items_from rows prefix) prefix ≡ items_direct rows prefix
all_from [] prefix = refl
all_from (x ∷ xs) prefix = by_test (is_before x.row.path prefix) refl (all_from xs prefix)
  where
    by_test : (b : Bool) → is_before x.row.path prefix ≡ b → items_direct (items_from xs prefix) prefix ≡ items_direct xs prefix
        → items_direct (cond (not b) (x ∷ items_from xs prefix) (items_from xs prefix)) prefix ≡ cond (is_direct prefix x.row.path) (x ∷ items_direct xs prefix) (items_direct xs prefix)
    by_test true t e = e ∙ sym (ap (λ b. cond b (x ∷ items_direct xs prefix) (items_direct xs prefix)) (not_direct prefix x.row.path (less_begins x.row.path prefix (less_of (bytes_cmp x.row.path prefix) t))))
    by_test false t e = ap (λ (is : List Placed). cond (is_direct prefix x.row.path) (x ∷ is) is) e

pub begins_itself : (prefix text : List ℕ) → text ≡ [] ++ prefix → starts_with nat_eq text prefix ≡ true
begins_itself prefix text e = ap (λ (t : List ℕ). starts_with nat_eq t prefix) (e ∙ sym (append-nil prefix)) ∙ begins_from prefix []

pub listed_all : (rows : List Placed) (prefix old new : List ℕ) (had has : List Placed) → AreItemsInOrder rows → had ≡ [] → old ≡ [] ++ prefix → IsListed prefix rows old had new has → has ≡ items_direct rows prefix
listed_all rows prefix old new had has o none is l =
    sym (append-nil has) ∙ l.whole [] (subst AreItemsInOrder (sym (append-nil rows)) o)
    ∙ ap (λ (xs : List Placed). xs ++ items_direct (items_from (rows ++ []) old) prefix) none
    ∙ ap (λ (xs : List Placed). items_direct (items_from xs old) prefix) (append-nil rows)
    ∙ ap (λ (t : List ℕ). items_direct (items_from rows t) prefix) is ∙ all_from rows prefix
