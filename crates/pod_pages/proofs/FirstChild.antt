-- The first child of a container, from one item to the next.
use Rattle.std.proofs.Common.{◌≡◌, ◌<◌, ◌≤◌, ℕ, Bool, true, false, not, cond, ◌&&◌, ◌||◌, List, [], ◌∷◌, ◌++◌, length, drop, Option, Some, None, refl, sym, ap, subst, ◌∙◌, arith}
use Rattle.std.specs.Prelude.{nat_eq}
use Rattle.std.specs.List.{starts_with}
use Rattle.std.specs.Ordering.{is_lt, ordering_reverse}
use Rattle.std.specs.declared.cmp.Ordering.{Ordering}
use Rattle.std.specs.declared.cmp.Ordering.TheVariants.{Less, Equal, Greater}
use Rattle.std.proofs.lemmas.Bool.{and_parts, false_from_ne_true}
use Rattle.std.proofs.lemmas.Cmp.{nat_list_cmp_total}
use Rattle.std.proofs.lemmas.List.{append-nil}
use Rattle.std.proofs.lemmas.Slice.Eq.{bytes_eq-Decides}
use Rattle.rdf_graph.specs.Triple.{bytes_cmp}
use Rattle.pod_path.specs.Hierarchy.{is_auxiliary, parent_of}
use Rattle.pod_rows.specs.Tree.{is_child_of, is_the_path}
use Rattle.row_pages.specs.Borders.{AreAfter}
use Rattle.row_pages.specs.Delimited.{is_direct, is_one_part}
use Rattle.row_pages.specs.Items.{Placed, AreItemsInOrder, begins_with, first_from, is_before}
use Rattle.row_pages.specs.Seeks.{IsNextText, items_from}
use Rattle.row_pages.proofs.Below.{begun, begins_from, less_begins, not_less, past}
use Rattle.row_pages.proofs.Ordered.{less_by, less_of, order_first, order_rest, same_path}
use Rattle.row_pages.proofs.Seeking.{next_zero}
use Rattle.pod_pages.specs.FirstChild.{has_direct_child, is_direct_child}
use Rattle.pod_pages.proofs.Children.{one_child}

never : true ≡ false → ⊥
never e = absurd cc

same_item : (x i : Placed) → Some x ≡ Some i → x ≡ i
same_item x i e = cc

none_some : (i : Placed) → None ≡ Some i → ⊥
none_some i e = absurd cc

-- ---- one item

not_direct : (c : List ℕ) (i : Placed) → is_direct c i.row.path ≡ false → is_direct_child c i ≡ false
not_direct c i n = ap (λ b. b && is_child_of c i.row) n

not_begun : (c : List ℕ) (i : Placed) → begins_with c i ≡ false → is_direct_child c i ≡ false
not_begun c i n = ap (λ b. (b && is_one_part (drop (length c) i.row.path)) && is_child_of c i.row) n

not_child : (c : List ℕ) (i : Placed) → is_child_of c i.row ≡ false → is_direct_child c i ≡ false
not_child c i n = ap (λ b. is_direct c i.row.path && b) n ∙ by_test (is_direct c i.row.path)
  where
    by_test : (b : Bool) → (b && false) ≡ false
    by_test true = refl
    by_test false = refl

-- a child whose path begins with the container's is directly below it
is_child : (c : List ℕ) (i : Placed) → begins_with c i ≡ true → is_child_of c i.row ≡ true → is_direct_child c i ≡ true
is_child c i b h =
    ap (λ t. (t && is_one_part (drop (length c) i.row.path)) && is_child_of c i.row) b
    ∙ ap (λ t. t && is_child_of c i.row) (one_child i.row.path c (by_parent (parent_of i.row.path) (and_parts (not (is_auxiliary i.row.path)) (is_the_path c (parent_of i.row.path)) h).1)) ∙ h
  where
    by_parent : (o : Option (List ℕ)) → is_the_path c o ≡ true → o ≡ Some c
    by_parent None t = absurd (never (sym t))
    by_parent (Some p) t = ap (λ (x : List ℕ). Some x) ((bytes_eq-Decides p c).0 t)

-- ---- the items from a text on

found_from : (rows : List Placed) (text : List ℕ) (i : Placed) → first_from rows text ≡ Some i → is_before i.row.path text ≡ false
found_from [] text i h = absurd (none_some i h)
found_from (x ∷ xs) text i h = by_test (is_before x.row.path text) refl (found_from xs text i) h
  where
    by_test : (b : Bool) → is_before x.row.path text ≡ b → (first_from xs text ≡ Some i → is_before i.row.path text ≡ false) → cond (not b) (Some x) (first_from xs text) ≡ Some i → is_before i.row.path text ≡ false
    by_test true t next e = next e
    by_test false t next e = ap (λ (p : Placed). is_before p.row.path text) (sym (same_item x i e)) ∙ t

-- all items after one that isn't before the text are kept
kept_all : (text : List ℕ) (i : Placed) (js : List Placed) → is_before i.row.path text ≡ false → AreAfter i.row.path js → items_from js text ≡ js
kept_all text i [] f a = refl
kept_all text i (j ∷ js) f a =
    ap (λ b. cond (not b) (j ∷ items_from js text) (items_from js text))
    (false_from_ne_true (is_before j.row.path text) (λ t. never (sym (ap is_lt (nat_list_cmp_total.trans i.row.path j.row.path text a.0 (less_of (bytes_cmp j.row.path text) t))) ∙ f)))
    ∙ ap (λ (is : List Placed). j ∷ is) (kept_all text i js f a.1)

no_more : (text : List ℕ) (js : List Placed) → length (items_from js text) ≤ length js
no_more text [] = omega arith
no_more text (j ∷ js) = by_test (is_before j.row.path text) (no_more text js)
  where
    by_test : (b : Bool) → length (items_from js text) ≤ length js → length (cond (not b) (j ∷ items_from js text) (items_from js text)) ≤ length (j ∷ js)
    by_test true l = omega (arith, l)
    by_test false l = omega (arith, l)

pub none_from : (rows : List Placed) (text c : List ℕ) → first_from rows text ≡ None → has_direct_child (items_from rows text) c ≡ false
none_from [] text c h = refl
none_from (x ∷ xs) text c h = by_test (is_before x.row.path text) (none_from xs text c) h
  where
    by_test : (b : Bool) → (first_from xs text ≡ None → has_direct_child (items_from xs text) c ≡ false) → cond (not b) (Some x) (first_from xs text) ≡ None → has_direct_child (cond (not b) (x ∷ items_from xs text) (items_from xs text)) c ≡ false
    by_test true next e = next e
    by_test false next e = absurd cc

-- a path from a text on that doesn't begin with what the text begins with is after it
past_text : (c text path : List ℕ) → starts_with nat_eq text c ≡ true → is_before path text ≡ false → starts_with nat_eq path c ≡ false → bytes_cmp c path ≡ Less
past_text c text path b h n = by_order (bytes_cmp c path) refl
  where
    from : is_before text c ≡ false
    from = false_from_ne_true (is_before text c) (λ t. not_less c (drop (length c) text) (ap (λ (x : List ℕ). bytes_cmp x c) (sym (begun text c b)) ∙ less_of (bytes_cmp text c) t))

    by_order : (o : Ordering) → bytes_cmp c path ≡ o → bytes_cmp c path ≡ Less
    by_order Less e = e
    by_order Equal e = absurd (never (sym (ap (λ (x : List ℕ). starts_with nat_eq x c) (sym (same_path c path e) ∙ sym (append-nil c)) ∙ begins_from c []) ∙ n))
    by_order Greater e = absurd (never (sym (ap is_lt (less_by path c text (nat_list_cmp_total.antisymm path c ∙ ap ordering_reverse e) from)) ∙ h))

none_past : (c : List ℕ) (i : Placed) (js : List Placed) → AreAfter i.row.path js → bytes_cmp c i.row.path ≡ Less → begins_with c i ≡ false → has_direct_child js c ≡ false
none_past c i [] a l n = refl
none_past c i (j ∷ js) a l n = ap (λ b. b || has_direct_child js c) (not_begun c j (past c i.row.path j.row.path l n a.0)) ∙ none_past c i js a.1 l n

pub none_further : (rows : List Placed) (text c : List ℕ) (i : Placed) → AreItemsInOrder rows → first_from rows text ≡ Some i → starts_with nat_eq text c ≡ true → begins_with c i ≡ false → has_direct_child (items_from rows text) c ≡ false
none_further rows text c i o h b n = further rows o h
  where
    less : bytes_cmp c i.row.path ≡ Less
    less = past_text c text i.row.path b (found_from rows text i h) n

    further : (rows : List Placed) → AreItemsInOrder rows → first_from rows text ≡ Some i → has_direct_child (items_from rows text) c ≡ false
    further [] o h = refl
    further (x ∷ xs) o h = by_test (is_before x.row.path text) refl (further xs (order_rest x xs o)) h
      where
        by_test : (b : Bool) → is_before x.row.path text ≡ b → (first_from xs text ≡ Some i → has_direct_child (items_from xs text) c ≡ false) → cond (not b) (Some x) (first_from xs text) ≡ Some i
            → has_direct_child (cond (not b) (x ∷ items_from xs text) (items_from xs text)) c ≡ false
        by_test true t next e = next e
        by_test false t next e =
            let same : i ≡ x = sym (same_item x i e) in
            ap (λ b. b || has_direct_child (items_from xs text) c) (ap (is_direct_child c) (sym same) ∙ not_begun c i n)
            ∙ ap (λ (is : List Placed). has_direct_child is c) (kept_all text x xs t (order_first x xs o))
            ∙ none_past c i xs (subst (λ (p : Placed). AreAfter p.row.path xs) (sym same) (order_first x xs o)) less n

-- ---- one item further

past_next : (c new : List ℕ) (i : Placed) (js : List Placed) → IsNextText c i.row.path new → AreAfter i.row.path js → has_direct_child (items_from js new) c ≡ has_direct_child js c
past_next c new i [] n a = refl
past_next c new i (j ∷ js) n a = by_test (is_before j.row.path new) refl (past_next c new i js n a.1)
  where
    by_test : (b : Bool) → is_before j.row.path new ≡ b → has_direct_child (items_from js new) c ≡ has_direct_child js c
        → has_direct_child (cond (not b) (j ∷ items_from js new) (items_from js new)) c ≡ has_direct_child (j ∷ js) c
    by_test true t e = e ∙ sym (ap (λ b. b || has_direct_child js c) (not_direct c j (n.none j.row.path a.0 (less_of (bytes_cmp j.row.path new) t))))
    by_test false t e = ap (λ b. is_direct_child c j || b) e

record Further (rows : List Placed) (text new c : List ℕ) : Type 0 where
  same : has_direct_child (items_from rows text) c ≡ has_direct_child (items_from rows new) c
  fewer : length (items_from rows new) < length (items_from rows text)

further_from : (rows : List Placed) (text new c : List ℕ) (i : Placed) → AreItemsInOrder rows → first_from rows text ≡ Some i → is_before i.row.path text ≡ false → is_child_of c i.row ≡ false → IsNextText c i.row.path new → Further rows text new c
further_from [] text new c i o h f k n = absurd (none_some i h)
further_from (x ∷ xs) text new c i o h f k n = by_test (is_before x.row.path text) refl (λ e. further_from xs text new c i (order_rest x xs o) e f k n) h
  where
    skips : (t : List ℕ) → is_before x.row.path t ≡ true → items_from (x ∷ xs) t ≡ items_from xs t
    skips t e = ap (λ b. cond (not b) (x ∷ items_from xs t) (items_from xs t)) e

    by_test : (b : Bool) → is_before x.row.path text ≡ b → (first_from xs text ≡ Some i → Further xs text new c) → cond (not b) (Some x) (first_from xs text) ≡ Some i → Further (x ∷ xs) text new c
    by_test true t next e =
        let less : bytes_cmp x.row.path i.row.path ≡ Less = less_by x.row.path text i.row.path (less_of (bytes_cmp x.row.path text) t) f in
        let first = skips text t in
        let second = skips new (ap is_lt (nat_list_cmp_total.trans x.row.path i.row.path new less n.after)) in
        let more = next e in
        record {
          same = ap (λ (is : List Placed). has_direct_child is c) first ∙ more.same ∙ ap (λ (is : List Placed). has_direct_child is c) (sym second);
          fewer = subst (λ (is : List Placed). length is < length (items_from (x ∷ xs) text)) (sym second) (subst (λ (is : List Placed). length (items_from xs new) < length is) (sym first) more.fewer);
        }
    by_test false t next e =
        let here : x ≡ i = same_item x i e in
        let next_text : IsNextText c x.row.path new = subst (λ (p : Placed). IsNextText c p.row.path new) (sym here) n in
        let after : AreAfter x.row.path xs = order_first x xs o in
        let first : items_from (x ∷ xs) text ≡ x ∷ xs = ap (λ b. cond (not b) (x ∷ items_from xs text) (items_from xs text)) t ∙ ap (λ (is : List Placed). x ∷ is) (kept_all text x xs t after) in
        let second = skips new (ap is_lt next_text.after) in
        let long = ap length first in
        let short = ap length second in
        let few = no_more new xs in
        record {
          same = ap (λ (is : List Placed). has_direct_child is c) first
              ∙ ap (λ b. b || has_direct_child xs c) (ap (is_direct_child c) here ∙ not_child c i k)
              ∙ sym (past_next c new x xs next_text after)
              ∙ ap (λ (is : List Placed). has_direct_child is c) (sym second);
          fewer = omega (arith, long, short, few);
        }

-- ---- the search

-- what is left to search has a child where the rows have one
pub record IsSought (rows : List Placed) (c text : List ℕ) : Type 0 where
  pub same : has_direct_child (items_from rows text) c ≡ has_direct_child rows c
  pub begins : starts_with nat_eq text c ≡ true

all_from : (rows : List Placed) (c : List ℕ) → has_direct_child (items_from rows c) c ≡ has_direct_child rows c
all_from [] c = refl
all_from (x ∷ xs) c = by_test (is_before x.row.path c) refl (all_from xs c)
  where
    by_test : (b : Bool) → is_before x.row.path c ≡ b → has_direct_child (items_from xs c) c ≡ has_direct_child xs c → has_direct_child (cond (not b) (x ∷ items_from xs c) (items_from xs c)) c ≡ has_direct_child (x ∷ xs) c
    by_test true t e = e ∙ sym (ap (λ b. b || has_direct_child xs c) (not_begun c x (less_begins x.row.path c (less_of (bytes_cmp x.row.path c) t))))
    by_test false t e = ap (λ b. is_direct_child c x || b) e

pub sought_first : (rows : List Placed) (c text : List ℕ) → text ≡ [] ++ c → IsSought rows c text
sought_first rows c text e = record {
  same = ap (λ (t : List ℕ). has_direct_child (items_from rows t) c) e ∙ all_from rows c;
  begins = ap (λ (t : List ℕ). starts_with nat_eq t c) (e ∙ sym (append-nil c)) ∙ begins_from c [];
}

further_step : (rows : List Placed) (c text new : List ℕ) (i : Placed) → AreItemsInOrder rows → first_from rows text ≡ Some i → begins_with c i ≡ true → is_child_of c i.row ≡ false → new ≡ i.row.path ++ 0 ∷ [] → Further rows text new c
further_step rows c text new i o h b k e = further_from rows text new c i o h (found_from rows text i h) k (next_zero c i.row.path new b e)

pub sought_next : (rows : List Placed) (c text new : List ℕ) (i : Placed) → AreItemsInOrder rows → first_from rows text ≡ Some i → begins_with c i ≡ true → is_child_of c i.row ≡ false → new ≡ i.row.path ++ 0 ∷ [] → IsSought rows c text → IsSought rows c new
sought_next rows c text new i o h b k e s = record {
  same = sym (further_step rows c text new i o h b k e).same ∙ s.same;
  begins = (next_zero c i.row.path new b e).begins;
}

pub fewer_next : (rows : List Placed) (c text new : List ℕ) (i : Placed) → AreItemsInOrder rows → first_from rows text ≡ Some i → begins_with c i ≡ true → is_child_of c i.row ≡ false → new ≡ i.row.path ++ 0 ∷ [] → length (items_from rows new) < length (items_from rows text)
fewer_next rows c text new i o h b k e = (further_step rows c text new i o h b k e).fewer

pub sought_found : (rows : List Placed) (c text : List ℕ) (i : Placed) → first_from rows text ≡ Some i → begins_with c i ≡ true → is_child_of c i.row ≡ true → true ≡ has_direct_child rows c
sought_found rows c text i h b k = in_rows rows h
  where
    in_rows : (rows : List Placed) → first_from rows text ≡ Some i → true ≡ has_direct_child rows c
    in_rows [] h = absurd (none_some i h)
    in_rows (x ∷ xs) h = by_test (is_before x.row.path text) (in_rows xs) h
      where
        or_true : (a : Bool) → true ≡ (a || true)
        or_true true = refl
        or_true false = refl

        by_test : (t : Bool) → (first_from xs text ≡ Some i → true ≡ has_direct_child xs c) → cond (not t) (Some x) (first_from xs text) ≡ Some i → true ≡ (is_direct_child c x || has_direct_child xs c)
        by_test true next e = or_true (is_direct_child c x) ∙ ap (λ a. is_direct_child c x || a) (next e)
        by_test false next e = sym (ap (λ a. a || has_direct_child xs c) (ap (is_direct_child c) (same_item x i e) ∙ is_child c i b k))

pub sought_none : (rows : List Placed) (c text : List ℕ) → has_direct_child (items_from rows text) c ≡ false → IsSought rows c text → false ≡ has_direct_child rows c
sought_none rows c text n s = sym n ∙ s.same
