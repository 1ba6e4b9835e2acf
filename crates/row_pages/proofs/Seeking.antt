-- The first item from a text on, and where a listing goes on after an item.
use Rattle.std.proofs.Common.{◌≡◌, ◌==◌, ◌+◌, ◌<◌, ◌≤◌, ℕ, suc, Bool, true, false, not, cond, ◌&&◌, List, [], ◌∷◌, ◌++◌, length, take, drop, Some, None, refl, sym, ap, ◌∙◌, arith, append_assoc}
use Rattle.std.specs.Prelude.{nat_eq, nat_lt}
use Rattle.std.specs.List.{flat_map, starts_with, position, position_or_len}
use Rattle.std.specs.Ordering.{is_lt, nat_cmp, ordering_reverse, ordering_then}
use Rattle.std.specs.declared.cmp.Ordering.{Ordering}
use Rattle.std.specs.declared.cmp.Ordering.TheVariants.{Less, Equal, Greater}
use Rattle.std.proofs.lemmas.Bool.{false_from_ne_true, ltb-false, ltb-true}
use Rattle.std.proofs.lemmas.Cmp.{nat_cmp_total, tied_itself}
use Rattle.std.proofs.lemmas.List.{drop_at, take_all, length-append}
use Rattle.std.proofs.lemmas.Map.Lookups.{exact_unsigned}
use Rattle.std.proofs.lemmas.Slice.Eq.{bytes_eq-Decides}
use Rattle.iri_ref.specs.Characters.{is_slash, slash}
use Rattle.rdf_graph.specs.Triple.{bytes_cmp}
use Rattle.row_pages.specs.Borders.{AreBefore, AreAfter}
use Rattle.row_pages.specs.Delimited.{first_part, is_direct, is_one_part}
use Rattle.row_pages.specs.Items.{Placed, first_from, first_item, is_before}
use Rattle.row_pages.specs.Seeks.{IsNextText}
use Rattle.row_pages.proofs.Around.{items_around}
use Rattle.row_pages.proofs.Below.{begun, begins_from}
use Rattle.row_pages.proofs.Ordered.{less_back}

-- ---- the first item from a text on, among parts

skip_before : (t : List ℕ) (xs zs : List Placed) → AreBefore t xs → first_from (xs ++ zs) t ≡ first_from zs t
skip_before t [] zs h = refl
skip_before t (x ∷ xs) zs h = ap (λ b. cond (not b) (Some x) (first_from (xs ++ zs) t)) (ap is_lt h.0) ∙ skip_before t xs zs h.1

found_first : (t : List ℕ) (ms zs : List Placed) (i : Placed) → first_from ms t ≡ Some i → first_from (ms ++ zs) t ≡ Some i
found_first t [] zs i h = absurd cc
found_first t (m ∷ ms) zs i h = by_test (is_before m.row.path t) (found_first t ms zs i) h
  where
    by_test : (b : Bool) → (first_from ms t ≡ Some i → first_from (ms ++ zs) t ≡ Some i) → cond (not b) (Some m) (first_from ms t) ≡ Some i → cond (not b) (Some m) (first_from (ms ++ zs) t) ≡ Some i
    by_test true next e = next e
    by_test false next e = e

none_first : (t : List ℕ) (ms zs : List Placed) → first_from ms t ≡ None → first_from (ms ++ zs) t ≡ first_from zs t
none_first t [] zs h = refl
none_first t (m ∷ ms) zs h = by_test (is_before m.row.path t) (none_first t ms zs) h
  where
    by_test : (b : Bool) → (first_from ms t ≡ None → first_from (ms ++ zs) t ≡ first_from zs t) → cond (not b) (Some m) (first_from ms t) ≡ None → cond (not b) (Some m) (first_from (ms ++ zs) t) ≡ first_from zs t
    by_test true next e = next e
    by_test false next e = absurd cc

first_after : (t : List ℕ) (ys : List Placed) → AreAfter t ys → first_from ys t ≡ first_item ys
first_after t [] h = refl
first_after t (y ∷ ys) h = ap (λ b. cond (not b) (Some y) (first_from ys t)) (less_back t y.row.path h.0)

pub from_part : {X : Type 0} (items : X → List Placed) (parts before after : List X) (part : X) (t : List ℕ) (i : Placed) → parts ≡ before ++ part ∷ after → AreBefore t (flat_map items before)
    → first_from (items part) t ≡ Some i → first_from (flat_map items parts) t ≡ Some i
from_part items parts before after part t i e a h =
    ap (λ is. first_from is t) (ap (flat_map items) e ∙ items_around items before after part)
    ∙ skip_before t (flat_map items before) (items part ++ flat_map items after) a
    ∙ found_first t (items part) (flat_map items after) i h

pub from_after : {X : Type 0} (items : X → List Placed) (parts before after : List X) (part : X) (t : List ℕ) → parts ≡ before ++ part ∷ after → AreBefore t (flat_map items before) → AreAfter t (flat_map items after)
    → first_from (items part) t ≡ None → first_from (flat_map items parts) t ≡ first_item (flat_map items after)
from_after items parts before after part t e a b h =
    ap (λ is. first_from is t) (ap (flat_map items) e ∙ items_around items before after part)
    ∙ skip_before t (flat_map items before) (items part ++ flat_map items after) a
    ∙ none_first t (items part) (flat_map items after) h
    ∙ first_after t (flat_map items after) b

first_of_both : (is zs : List Placed) (i : Placed) → first_item is ≡ Some i → first_item (is ++ zs) ≡ Some i
first_of_both [] zs i h = absurd cc
first_of_both (x ∷ xs) zs i h = h

pub first_of_parts : {X : Type 0} (items : X → List Placed) (parts more : List X) (part : X) (i : Placed) → parts ≡ part ∷ more → first_item (items part) ≡ Some i → first_item (flat_map items parts) ≡ Some i
first_of_parts items parts more part i e h = ap (λ ps. first_item (flat_map items ps)) e ∙ first_of_both (items part) (flat_map items more) i h

-- ---- two texts, and one between them

cmp_less : (x y : ℕ) → nat_cmp x y ≡ Less → x < y
cmp_less x y h = by_test (nat_lt x y) refl h
  where
    by_equal : (b : Bool) → cond b Equal Greater ≡ Less → ⊥
    by_equal true e = absurd cc
    by_equal false e = absurd cc

    by_test : (b : Bool) → nat_lt x y ≡ b → cond b Less (cond (x == y) Equal Greater) ≡ Less → x < y
    by_test true t e = ltb-true x y t
    by_test false t e = absurd (by_equal (x == y) e)

never_less : (xs : List ℕ) → bytes_cmp xs [] ≡ Less → ⊥
never_less [] h = absurd cc
never_less (x ∷ xs) h = absurd cc

some_after : (xs ys : List ℕ) → bytes_cmp xs ys ≡ Less → 0 < length ys
some_after xs [] h = absurd (never_less xs h)
some_after xs (y ∷ ys) h = omega arith

pub rises : (q m n : List ℕ) (a b : ℕ) → nat_cmp a b ≡ Less → bytes_cmp (q ++ a ∷ m) (q ++ b ∷ n) ≡ Less
rises [] m n a b h = ap (λ o. ordering_then o (bytes_cmp m n)) h
rises (c ∷ qs) m n a b h = ap (λ o. ordering_then o (bytes_cmp (qs ++ a ∷ m) (qs ++ b ∷ n))) (tied_itself nat_cmp_total c) ∙ rises qs m n a b h

pub rises_end : (p n : List ℕ) (a : ℕ) → bytes_cmp p (p ++ a ∷ n) ≡ Less
rises_end [] n a = refl
rises_end (c ∷ ps) n a = ap (λ o. ordering_then o (bytes_cmp ps (ps ++ a ∷ n))) (tied_itself nat_cmp_total c) ∙ rises_end ps n a

record Under (q : List ℕ) (a : ℕ) (other : List ℕ) : Type 0 where
  rest : List ℕ
  whole : other ≡ q ++ a ∷ rest
  some : 0 < length rest

-- what is after a text that goes on by a character, and before the one with the next character there, goes on by it too
squeezed : (q m other : List ℕ) (a b : ℕ) → b ≤ a + 1 → bytes_cmp (q ++ a ∷ m) other ≡ Less → bytes_cmp other (q ++ b ∷ []) ≡ Less → Under q a other
squeezed [] m [] a b l h k = absurd cc
squeezed [] m (d ∷ ds) a b l h k = by_order (nat_cmp a d) refl
  where
    by_order : (o : Ordering) → nat_cmp a d ≡ o → Under [] a (d ∷ ds)
    by_order Less e = absurd (by_next (nat_cmp d b) refl)
      where
        by_next : (o : Ordering) → nat_cmp d b ≡ o → ⊥
        by_next Less f = let x = cmp_less a d e in let y = cmp_less d b f in omega (arith, l, x, y)
        by_next Equal f = never_less ds (sym (ap (λ o. ordering_then o (bytes_cmp ds [])) f) ∙ k)
        by_next Greater f = (let never : Greater ≡ Less = sym (ap (λ o. ordering_then o (bytes_cmp ds [])) f) ∙ k in absurd cc)
    by_order Equal e = record {
      rest = ds;
      whole = ap (λ (x : ℕ). x ∷ ds) (sym (exact_unsigned a d e));
      some = some_after m ds (sym (ap (λ o. ordering_then o (bytes_cmp m ds)) e) ∙ h);
    }
    by_order Greater e = (let never : Greater ≡ Less = sym (ap (λ o. ordering_then o (bytes_cmp m ds)) e) ∙ h in absurd cc)
squeezed (c ∷ qs) m [] a b l h k = absurd cc
squeezed (c ∷ qs) m (d ∷ ds) a b l h k = by_order (nat_cmp c d) refl (squeezed qs m ds a b l)
  where
    by_order : (o : Ordering) → nat_cmp c d ≡ o → (bytes_cmp (qs ++ a ∷ m) ds ≡ Less → bytes_cmp ds (qs ++ b ∷ []) ≡ Less → Under qs a ds) → Under (c ∷ qs) a (d ∷ ds)
    by_order Less e next =
        let back : nat_cmp d c ≡ Greater = nat_cmp_total.antisymm d c ∙ ap ordering_reverse e in
        let never : Greater ≡ Less = sym (ap (λ o. ordering_then o (bytes_cmp ds (qs ++ b ∷ []))) back) ∙ k in
        absurd cc
    by_order Equal e next =
        let back : nat_cmp d c ≡ Equal = nat_cmp_total.antisymm d c ∙ ap ordering_reverse e in
        let more = next (sym (ap (λ o. ordering_then o (bytes_cmp (qs ++ a ∷ m) ds)) e) ∙ h) (sym (ap (λ o. ordering_then o (bytes_cmp ds (qs ++ b ∷ []))) back) ∙ k) in
        record {
          rest = more.rest;
          whole = ap (λ (x : ℕ). x ∷ ds) (sym (exact_unsigned c d e)) ∙ ap (λ (xs : List ℕ). c ∷ xs) more.whole;
          some = more.some;
        }
    by_order Greater e next =
        let never : Greater ≡ Less = sym (ap (λ o. ordering_then o (bytes_cmp (qs ++ a ∷ m) ds)) e) ∙ h in
        absurd cc

-- nothing is between a text and the next one in byte order
nothing_between : (p other : List ℕ) → bytes_cmp p other ≡ Less → bytes_cmp other (p ++ 0 ∷ []) ≡ Less → ⊥
nothing_between [] [] h k = absurd cc
nothing_between [] (d ∷ ds) h k = by_next (nat_cmp d 0) refl
  where
    by_next : (o : Ordering) → nat_cmp d 0 ≡ o → ⊥
    by_next Less f = let y = cmp_less d 0 f in omega (arith, y)
    by_next Equal f = never_less ds (sym (ap (λ o. ordering_then o (bytes_cmp ds [])) f) ∙ k)
    by_next Greater f = (let never : Greater ≡ Less = sym (ap (λ o. ordering_then o (bytes_cmp ds [])) f) ∙ k in absurd cc)
nothing_between (c ∷ ps) [] h k = absurd cc
nothing_between (c ∷ ps) (d ∷ ds) h k = by_order (nat_cmp c d) refl (nothing_between ps ds)
  where
    by_order : (o : Ordering) → nat_cmp c d ≡ o → (bytes_cmp ps ds ≡ Less → bytes_cmp ds (ps ++ 0 ∷ []) ≡ Less → ⊥) → ⊥
    by_order Less e next =
        let back : nat_cmp d c ≡ Greater = nat_cmp_total.antisymm d c ∙ ap ordering_reverse e in
        let never : Greater ≡ Less = sym (ap (λ o. ordering_then o (bytes_cmp ds (ps ++ 0 ∷ []))) back) ∙ k in
        absurd cc
    by_order Equal e next =
        let back : nat_cmp d c ≡ Equal = nat_cmp_total.antisymm d c ∙ ap ordering_reverse e in
        next (sym (ap (λ o. ordering_then o (bytes_cmp ps ds)) e) ∙ h) (sym (ap (λ o. ordering_then o (bytes_cmp ds (ps ++ 0 ∷ []))) back) ∙ k)
    by_order Greater e next =
        let never : Greater ≡ Less = sym (ap (λ o. ordering_then o (bytes_cmp ps ds)) e) ∙ h in
        absurd cc

-- ---- the text up to its first slash

pub part_taken : (xs : List ℕ) → first_part xs ≡ take (position_or_len is_slash xs + 1) xs
part_taken [] = refl
part_taken (c ∷ cs) = by_test (is_slash c) (part_taken cs)
  where
    by_test : (b : Bool) → first_part cs ≡ take (position_or_len is_slash cs + 1) cs → c ∷ cond b [] (first_part cs) ≡ take (cond (not b) (1 + position_or_len is_slash cs) 0 + 1) (c ∷ cs)
    by_test true e = refl
    by_test false e = ap (λ (x : List ℕ). c ∷ x) e ∙ ap (λ (n : ℕ). take n (c ∷ cs)) {x = suc (position_or_len is_slash cs + 1)} {y = 1 + position_or_len is_slash cs + 1} (omega arith)

pub part_some : (xs : List ℕ) (at : ℕ) → position is_slash xs ≡ Some at → first_part xs ≡ take (at + 1) xs
part_some xs at e = part_taken xs ∙ by_test _ (position_or_len is_slash xs) e
  where
    by_test : (b : Bool) (k : ℕ) → cond b (Some k) None ≡ Some at → take (k + 1) xs ≡ take (at + 1) xs
    by_test true k e = let same : k ≡ at = cc in ap (λ (n : ℕ). take (n + 1) xs) same
    by_test false k e = absurd cc

pub part_none : (xs : List ℕ) → position is_slash xs ≡ None → xs ≡ first_part xs
part_none xs e = by_test _ refl e
  where
    by_test : (b : Bool) → nat_lt (position_or_len is_slash xs) (length xs) ≡ b → cond b (Some (position_or_len is_slash xs)) None ≡ None → xs ≡ first_part xs
    by_test true h e = absurd cc
    by_test false h e = let l = ltb-false _ _ h in sym (part_taken xs ∙ take_all (position_or_len is_slash xs + 1) xs (omega (arith, l)))

part_front : (xs : List ℕ) → (m : List ℕ) × (xs ≡ first_part xs ++ m)
part_front [] = ([], refl)
part_front (c ∷ cs) = by_test (is_slash c) (part_front cs)
  where
    by_test : (b : Bool) → (m : List ℕ) × (cs ≡ first_part cs ++ m) → (m : List ℕ) × (c ∷ cs ≡ (c ∷ cond b [] (first_part cs)) ++ m)
    by_test true more = (cs, refl)
    by_test false more = (more.0, ap (λ (x : List ℕ). c ∷ x) more.1)

head_is : (c n : ℕ) (cs ns : List ℕ) → c ∷ cs ≡ n ∷ ns → c ≡ n
head_is c n cs ns e = cc

tail_is : (c n : ℕ) (cs ns : List ℕ) → c ∷ cs ≡ n ∷ ns → cs ≡ ns
tail_is c n cs ns e = cc

-- a first part that ends in a slash is that of all that begins with it
part_again : (xs name t : List ℕ) → first_part xs ≡ name ++ slash ∷ [] → first_part (name ++ slash ∷ t) ≡ name ++ slash ∷ []
part_again xs [] t e = refl
part_again [] (n ∷ ns) t e = absurd cc
part_again (c ∷ cs) (n ∷ ns) t e = by_test (is_slash c) refl e (part_again cs ns t)
  where
    empty_end : (ys : List ℕ) → [] ≡ ys ++ slash ∷ [] → ⊥
    empty_end [] z = absurd cc
    empty_end (y ∷ ys) z = absurd cc

    by_test : (b : Bool) → is_slash c ≡ b → c ∷ cond b [] (first_part cs) ≡ n ∷ (ns ++ slash ∷ []) → (first_part cs ≡ ns ++ slash ∷ [] → first_part (ns ++ slash ∷ t) ≡ ns ++ slash ∷ [])
        → first_part (n ∷ (ns ++ slash ∷ t)) ≡ n ∷ (ns ++ slash ∷ [])
    by_test true h e next = absurd (empty_end ns (tail_is c n [] (ns ++ slash ∷ []) e))
    by_test false h e next =
        let plain : is_slash n ≡ false = ap is_slash (sym (head_is c n (first_part cs) (ns ++ slash ∷ []) e)) ∙ h in
        ap (λ b. n ∷ cond b [] (first_part (ns ++ slash ∷ t))) plain ∙ ap (λ (x : List ℕ). n ∷ x) (next (tail_is c n (first_part cs) (ns ++ slash ∷ []) e))

-- ---- where a listing goes on

and_false : (b : Bool) → (b && false) ≡ false
and_false true = refl
and_false false = refl

not_one : (name t : List ℕ) → first_part (name ++ slash ∷ t) ≡ name ++ slash ∷ [] → 0 < length t → is_one_part (name ++ slash ∷ t) ≡ false
not_one name t e some =
    false_from_ne_true (is_one_part (name ++ slash ∷ t))
    (λ h. let same = ap length (sym e ∙ (bytes_eq-Decides (first_part (name ++ slash ∷ t)) (name ++ slash ∷ t)).0 h) in
    let short = length-append name (slash ∷ []) in
    let long = length-append name (slash ∷ t) in
    omega (arith, same, short, long, some))

pub next_slash : (prefix path name text : List ℕ) → starts_with nat_eq path prefix ≡ true → first_part (drop (length prefix) path) ≡ name ++ slash ∷ [] → text ≡ prefix ++ (name ++ (slash + 1) ∷ [])
    → IsNextText prefix path text
next_slash prefix path name text begins part is = record {
  begins = ap (λ (x : List ℕ). starts_with nat_eq x prefix) is ∙ begins_from prefix (name ++ (slash + 1) ∷ []);
  after = ap (bytes_cmp path) next ∙ ap (λ (x : List ℕ). bytes_cmp x (q ++ (slash + 1) ∷ [])) whole ∙ rises q more.0 [] slash (slash + 1) refl;
  none = λ other h k. by_under other (squeezed q more.0 other slash (slash + 1) (omega arith) (sym (ap (λ (x : List ℕ). bytes_cmp x other) whole) ∙ h) (sym (ap (bytes_cmp other) next) ∙ k));
}
  where
    q : List ℕ
    q = prefix ++ name

    more : (m : List ℕ) × (drop (length prefix) path ≡ first_part (drop (length prefix) path) ++ m)
    more = part_front (drop (length prefix) path)

    next : text ≡ q ++ (slash + 1) ∷ []
    next = is ∙ sym (append_assoc prefix name ((slash + 1) ∷ []))

    whole : path ≡ q ++ slash ∷ more.0
    whole = begun path prefix begins ∙ ap (λ (x : List ℕ). prefix ++ x) (more.1 ∙ ap (λ (x : List ℕ). x ++ more.0) part ∙ append_assoc name (slash ∷ []) more.0) ∙ sym (append_assoc prefix name (slash ∷ more.0))

    by_under : (other : List ℕ) → Under q slash other → is_direct prefix other ≡ false
    by_under other u =
        let all : other ≡ prefix ++ (name ++ slash ∷ u.rest) = u.whole ∙ append_assoc prefix name (slash ∷ u.rest) in
        let after : drop (length prefix) other ≡ name ++ slash ∷ u.rest = ap (drop (length prefix)) all ∙ drop_at prefix (name ++ slash ∷ u.rest) (length prefix) refl in
        let no : is_one_part (drop (length prefix) other) ≡ false = ap is_one_part after ∙ not_one name u.rest (part_again (drop (length prefix) path) name u.rest part) u.some in
        ap (λ b. starts_with nat_eq other prefix && b) no ∙ and_false (starts_with nat_eq other prefix)

pub next_zero : (prefix path text : List ℕ) → starts_with nat_eq path prefix ≡ true → text ≡ path ++ ([] ++ 0 ∷ []) → IsNextText prefix path text
next_zero prefix path text begins is = record {
  begins = ap (λ (x : List ℕ). starts_with nat_eq x prefix) (is ∙ ap (λ (x : List ℕ). x ++ 0 ∷ []) (begun path prefix begins) ∙ append_assoc prefix (drop (length prefix) path) (0 ∷ [])) ∙ begins_from prefix (drop (length prefix) path ++ 0 ∷ []);
  after = ap (bytes_cmp path) is ∙ rises_end path [] 0;
  none = λ other h k. absurd (nothing_between path other h (sym (ap (bytes_cmp other) is) ∙ k));
}
