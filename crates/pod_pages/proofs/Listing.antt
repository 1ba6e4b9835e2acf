-- The numbers of lists while they are given and freed.
use Rattle.std.proofs.Common.{◌≡◌, ◌==◌, ◌||◌, ◌&&◌, ◌<◌, ◌≤◌, ◌+◌, ◌++◌, take, drop, drop-cons, add-one, get_or, suc, ℕ, Bool, true, false, not, cond, List, [], ◌∷◌, length, filter, Option, Some, None, refl, sym, ap, ◌∙◌, subst, arith, inl, inr, ◌⊎◌, ⊎_elim}
use Rattle.std.specs.Prelude.{is_some, bytes_eq}
use Rattle.std.proofs.lemmas.Bool.{true≢false, eqb-true, or_parts, cases_order}
use Rattle.std.proofs.lemmas.List.{take_more}
use Rattle.std.proofs.Math.ListN.{get_or-eq_default}
use Rattle.std.proofs.lemmas.Slice.Eq.{bytes_eq-Decides}
use Rattle.acl_rules.specs.declared.rule.Rule.{Rule}
use Rattle.pod_path.specs.Hierarchy.{subject_of}
use Rattle.pod_command.specs.declared.row.Row.{Row}
use Rattle.pod_rows.specs.Access.{has_own_list, list_path, rules_in}
use Rattle.pod_rows.specs.Pod.{row_at, is_row}
use Rattle.access_index.specs.Listing.{is_listed}
use Rattle.row_pages.specs.Items.{Placed, AreItemsInOrder, item_at, put_item, rows_of}
use Rattle.pod_pages.specs.Lists.{list_at}
use Rattle.pod_pages.specs.Marks.{own_if, own_of, own_number}
use Rattle.pod_pages.specs.Numbering.{AreNumbered, IsListOf, IsNumberFor, IsTree, Places, list_rules}
use Rattle.pod_pages.specs.declared.list_table.AccessList.{AccessList}
use Rattle.pod_pages.proofs.Found.{put_found, found_path}
use Rattle.pod_pages.proofs.Placing.{row_of, found_rows, found_is, rows_put, rows_order, put_same}

abbrev pub path_of : Placed → List ℕ
path_of i = i.row.path

abbrev pub remarked : Placed → ℕ → Bool → Placed
remarked i list own = record { row = i.row; list = list; own = own }

-- ---- an item with another mark

pub remarked_rows : (items : List Placed) (s : List ℕ) (i : Placed) (n : ℕ) (b : Bool) → AreItemsInOrder items → item_at items s ≡ Some i → rows_of (put_item items (remarked i n b)) ≡ rows_of items
remarked_rows items s i n b o e =
    rows_put items (remarked i n b)
    ∙ put_same (rows_of items) i.row (rows_order items o) (ap (row_at (rows_of items)) (found_path path_of items s i e) ∙ sym (found_rows items s) ∙ ap (Rattle.std.proofs.Common.option_map row_of) e)

pub remarked_found : (items : List Placed) (s : List ℕ) (i : Placed) (n : ℕ) (b : Bool) (q : List ℕ) → item_at items s ≡ Some i
    → item_at (put_item items (remarked i n b)) q ≡ cond (bytes_eq s q) (Some (remarked i n b)) (item_at items q)
remarked_found items s i n b q e =
    put_found path_of items (remarked i n b) q ∙ ap (λ (p : List ℕ). cond (bytes_eq p q) (Some (remarked i n b)) (item_at items q)) (found_path path_of items s i e)

pub remarked_beside : (items : List Placed) (s : List ℕ) (i : Placed) (n : ℕ) (b : Bool) (q : List ℕ) → item_at items s ≡ Some i → bytes_eq s q ≡ false
    → item_at (put_item items (remarked i n b)) q ≡ item_at items q
remarked_beside items s i n b q e h = remarked_found items s i n b q e ∙ ap (λ (t : Bool). cond t (Some (remarked i n b)) (item_at items q)) h

own_cond : (t : Bool) (i : Placed) (o : Option Placed) → own_of (cond t (Some i) o) ≡ cond t (own_if i.own i.list) (own_of o)
own_cond true i o = refl
own_cond false i o = refl

pub remarked_number : (items : List Placed) (s : List ℕ) (i : Placed) (n : ℕ) (b : Bool) (q : List ℕ) → item_at items s ≡ Some i
    → own_number (put_item items (remarked i n b)) q ≡ cond (bytes_eq s q) (own_if b n) (own_number items q)
remarked_number items s i n b q e = ap own_of (remarked_found items s i n b q e) ∙ own_cond (bytes_eq s q) (remarked i n b) (item_at items q)

-- ---- one subject fewer is pending

same_eq : (s q : List ℕ) → bytes_eq s q ≡ true → s ≡ q
same_eq s q h = (bytes_eq-Decides s q).0 h

-- what a new number at a subject makes of the numbers
record Renumbered (items items' : List Placed) (s : List ℕ) (number : Option ℕ) : Type 0 where
  is : (q : List ℕ) → own_number items' q ≡ cond (bytes_eq s q) number (own_number items q)

at_subject : (items items' : List Placed) (s : List ℕ) (o : Option ℕ) (q : List ℕ) → Renumbered items items' s o → bytes_eq s q ≡ true → own_number items' q ≡ o
at_subject items items' s o q r h = r.is q ∙ ap (λ (t : Bool). cond t o (own_number items q)) h

at_other : (items items' : List Placed) (s : List ℕ) (o : Option ℕ) (q : List ℕ) → Renumbered items items' s o → bytes_eq s q ≡ false → own_number items' q ≡ own_number items q
at_other items items' s o q r h = r.is q ∙ ap (λ (t : Bool). cond t o (own_number items q)) h

still_pending : (s : List ℕ) (pending : List (List ℕ)) (q : List ℕ) → bytes_eq s q ≡ false → is_listed pending q ≡ false → is_listed (s ∷ pending) q ≡ false
still_pending s pending q h k = ap (λ (t : Bool). t || is_listed pending q) h ∙ k

-- ---- a subject without a list

pub unlisted : (base : List ℕ) (first : List Placed) (pending : List (List ℕ)) (items items' : List Placed) (places : Places) (s : List ℕ)
    → has_own_list (rows_of first) s ≡ false → rows_of items' ≡ rows_of items → ((q : List ℕ) → own_number items' q ≡ cond (bytes_eq s q) None (own_number items q))
    → AreNumbered base first (s ∷ pending) items places → AreNumbered base first pending items' places
unlisted base first pending items items' places s lacks same is a = record {
  rows = same ∙ a.rows;
  has = λ q plain h. by_has q plain h (bytes_eq s q) refl;
  lists = λ q k plain e has. by_lists q k plain e has (bytes_eq s q) refl;
  numbers = λ k l e. at_other items items' s None l.at r (apart k l e) ∙ a.numbers k l e;
  owners = a.owners;
  rules = λ k l e h. a.rules k l e (still_pending s pending l.at (apart k l e) h);
  stable = λ q k e has. at_other items items' s None q r (other q has) ∙ a.stable q k e has;
}
  where
    r : Renumbered items items' s None
    r = record { is = is }

    other : (q : List ℕ) → has_own_list (rows_of first) q ≡ true → bytes_eq s q ≡ false
    other q has = by_test (bytes_eq s q) refl
      where
        by_test : (t : Bool) → bytes_eq s q ≡ t → t ≡ false
        by_test true e = absurd (true≢false (sym has ∙ sym (ap (has_own_list (rows_of first)) (same_eq s q e)) ∙ lacks))
        by_test false e = refl

    apart : (k : ℕ) (l : AccessList) → list_at places k ≡ Some l → bytes_eq s l.at ≡ false
    apart k l e = other l.at (a.owners k l e)

    by_has : (q : List ℕ) → subject_of q ≡ None → is_listed pending q ≡ false → (t : Bool) → bytes_eq s q ≡ t → has_own_list (rows_of first) q ≡ is_some (own_number items' q)
    by_has q plain h true e = sym (ap (has_own_list (rows_of first)) (same_eq s q e)) ∙ lacks ∙ sym (ap is_some (at_subject items items' s None q r e))
    by_has q plain h false e = a.has q plain (still_pending s pending q e h) ∙ sym (ap is_some (at_other items items' s None q r e))

    by_lists : (q : List ℕ) (k : ℕ) → subject_of q ≡ None → own_number items' q ≡ Some k → has_own_list (rows_of first) q ≡ true → (t : Bool) → bytes_eq s q ≡ t → IsListOf places k q
    by_lists q k plain e has true h = let none : None ≡ Some k = sym (at_subject items items' s None q r h) ∙ e in absurd cc
    by_lists q k plain e has false h = a.lists q k plain (sym (at_other items items' s None q r h) ∙ e) has

-- ---- a subject with a list

pub record IsFree (items : List Placed) (places : Places) (s : List ℕ) (n : ℕ) : Type 0 where
  pub is : (own_number items s ≡ Some n) ⊎ ((own_number items s ≡ None) × (list_at places n ≡ None))

pub listed : (base : List ℕ) (first : List Placed) (pending : List (List ℕ)) (items items' : List Placed) (places places' : Places) (s : List ℕ) (n : ℕ) (l : AccessList)
    → IsTree (rows_of first) → has_own_list (rows_of first) s ≡ true → l.at ≡ s → l.rules.list ≡ list_rules base (rows_of first) s → IsFree items places s n
    → rows_of items' ≡ rows_of items → ((q : List ℕ) → own_number items' q ≡ cond (bytes_eq s q) (Some n) (own_number items q))
    → ((k : ℕ) → list_at places' k ≡ cond (k == n) (Some l) (list_at places k))
    → AreNumbered base first (s ∷ pending) items places → AreNumbered base first pending items' places'
listed base first pending items items' places places' s n l tree has at ruled free same is set a = record {
  rows = same ∙ a.rows;
  has = λ q plain h. by_has q plain h (bytes_eq s q) refl;
  lists = λ q k plain e h. by_lists q k plain e h (bytes_eq s q) refl;
  numbers = λ k m e. by_numbers k m e (k == n) refl;
  owners = λ k m e. by_owners k m e (k == n) refl;
  rules = λ k m e h. by_rules k m e h (k == n) refl;
  stable = λ q k e h. by_stable q k e h (bytes_eq s q) refl;
}
  where
    r : Renumbered items items' s (Some n)
    r = record { is = is }

    set_here : (k : ℕ) (m : AccessList) → list_at places' k ≡ Some m → (k == n) ≡ true → l ≡ m
    set_here k m e h = let both : Some l ≡ Some m = sym (set k ∙ ap (λ (t : Bool). cond t (Some l) (list_at places k)) h) ∙ e in cc

    set_there : (k : ℕ) (m : AccessList) → list_at places' k ≡ Some m → (k == n) ≡ false → list_at places k ≡ Some m
    set_there k m e h = sym (set k ∙ ap (λ (t : Bool). cond t (Some l) (list_at places k)) h) ∙ e

    -- a number of the subject is the one that it has now
    only : (k : ℕ) → own_number items s ≡ Some k → k ≡ n
    only k e = ⊎_elim (λ f. let both : Some k ≡ Some n = sym e ∙ f in cc) (λ f. absurd (none_some k (sym f.0 ∙ e))) free.is
      where
        none_some : (x : ℕ) → None ≡ Some x → ⊥
        none_some x z = absurd cc

    eq_refl : (k : ℕ) → k ≡ n → (k == n) ≡ true
    eq_refl k e = Rattle.std.proofs.Common.eq-eqb k n e

    apart : (k : ℕ) (m : AccessList) → list_at places k ≡ Some m → (k == n) ≡ false → bytes_eq s m.at ≡ false
    apart k m e h = by_test (bytes_eq s m.at) refl
      where
        by_test : (t : Bool) → bytes_eq s m.at ≡ t → t ≡ false
        by_test true z = absurd (true≢false (sym (eq_refl k (only k (ap (own_number items) (same_eq s m.at z) ∙ a.numbers k m e))) ∙ h))
        by_test false z = refl

    by_has : (q : List ℕ) → subject_of q ≡ None → is_listed pending q ≡ false → (t : Bool) → bytes_eq s q ≡ t → has_own_list (rows_of first) q ≡ is_some (own_number items' q)
    by_has q plain h true e = sym (ap (has_own_list (rows_of first)) (same_eq s q e)) ∙ has ∙ sym (ap is_some (at_subject items items' s (Some n) q r e))
    by_has q plain h false e = a.has q plain (still_pending s pending q e h) ∙ sym (ap is_some (at_other items items' s (Some n) q r e))

    -- a list of another path has another number
    other_number : (q : List ℕ) (k : ℕ) → IsListOf places k q → bytes_eq s q ≡ false → (k == n) ≡ false
    other_number q k old h = by_test (k == n) refl
      where
        clash : k ≡ n → ⊥
        clash e = ⊎_elim
            (λ f.
            let here = a.lists s n (tree.plain s has) f has in
            let both : Some here.list ≡ Some old.list = sym here.found ∙ ap (list_at places) (sym e) ∙ old.found in
            let one : here.list ≡ old.list = cc in
            true≢false (sym ((bytes_eq-Decides s q).1 (sym here.is ∙ ap (λ (x : AccessList). x.at) one ∙ old.is)) ∙ h))
            (λ f. none_some old.list (sym f.1 ∙ ap (list_at places) (sym e) ∙ old.found))
            free.is
          where
            none_some : (x : AccessList) → None ≡ Some x → ⊥
            none_some x z = absurd cc

        by_test : (t : Bool) → (k == n) ≡ t → t ≡ false
        by_test true e = absurd (clash (eqb-true k n e))
        by_test false e = refl

    by_lists : (q : List ℕ) (k : ℕ) → subject_of q ≡ None → own_number items' q ≡ Some k → has_own_list (rows_of first) q ≡ true → (t : Bool) → bytes_eq s q ≡ t → IsListOf places' k q
    by_lists q k plain e h true z =
        let both : Some n ≡ Some k = sym (at_subject items items' s (Some n) q r z) ∙ e in
        let one : k ≡ n = sym (let u : n ≡ k = cc in u) in
        record { list = l; found = set k ∙ ap (λ (t : Bool). cond t (Some l) (list_at places k)) (eq_refl k one); is = at ∙ same_eq s q z }
    by_lists q k plain e h false z =
        let old = a.lists q k plain (sym (at_other items items' s (Some n) q r z) ∙ e) h in
        record { list = old.list; found = set k ∙ ap (λ (t : Bool). cond t (Some l) (list_at places k)) (other_number q k old z) ∙ old.found; is = old.is }

    by_numbers : (k : ℕ) (m : AccessList) → list_at places' k ≡ Some m → (t : Bool) → (k == n) ≡ t → own_number items' m.at ≡ Some k
    by_numbers k m e true h =
        let one = set_here k m e h in
        at_subject items items' s (Some n) m.at r ((bytes_eq-Decides s m.at).1 (sym at ∙ ap (λ (x : AccessList). x.at) one)) ∙ ap (λ (x : ℕ). Some x) (sym (eqb-true k n h))
    by_numbers k m e false h =
        let old = set_there k m e h in
        at_other items items' s (Some n) m.at r (apart k m old h) ∙ a.numbers k m old

    by_owners : (k : ℕ) (m : AccessList) → list_at places' k ≡ Some m → (t : Bool) → (k == n) ≡ t → has_own_list (rows_of first) m.at ≡ true
    by_owners k m e true h = ap (has_own_list (rows_of first)) (ap (λ (x : AccessList). x.at) (sym (set_here k m e h)) ∙ at) ∙ has
    by_owners k m e false h = a.owners k m (set_there k m e h)

    by_rules : (k : ℕ) (m : AccessList) → list_at places' k ≡ Some m → is_listed pending m.at ≡ false → (t : Bool) → (k == n) ≡ t → m.rules.list ≡ list_rules base (rows_of first) m.at
    by_rules k m e p true h =
        let one = set_here k m e h in
        ap (λ (x : AccessList). x.rules.list) (sym one) ∙ ruled ∙ ap (list_rules base (rows_of first)) (sym at ∙ ap (λ (x : AccessList). x.at) one)
    by_rules k m e p false h =
        let old = set_there k m e h in
        a.rules k m old (still_pending s pending m.at (apart k m old h) p)

    by_stable : (q : List ℕ) (k : ℕ) → own_number first q ≡ Some k → has_own_list (rows_of first) q ≡ true → (t : Bool) → bytes_eq s q ≡ t → own_number items' q ≡ Some k
    by_stable q k e h true z =
        let old = a.stable q k e h in
        at_subject items items' s (Some n) q r z ∙ ap (λ (x : ℕ). Some x) (sym (only k (ap (own_number items) (same_eq s q z) ∙ old)))
    by_stable q k e h false z = at_other items items' s (Some n) q r z ∙ a.stable q k e h

-- ---- the steps of the code

pub list_within : (places : Places) (n : ℕ) (l : AccessList) → list_at places n ≡ Some l → n ≤ length places
list_within places n l e =
    ⊎_elim (λ (same : n ≡ length places). omega (arith, same)) (λ k. ⊎_elim (λ (less : n < length places). omega (arith, less)) (λ (more : length places < n). absurd (clash more)) k) (cases_order n (length places))
  where
    none_some : None ≡ Some l → ⊥
    none_some z = absurd cc

    clash : length places < n → ⊥
    clash more = none_some (sym (get_or-eq_default places None (omega (arith, more))) ∙ e)

pub with_list : (items : List Placed) (s : List ℕ) (i : Placed) (places new : Places) (n : ℕ) (l : AccessList) (m : Placed) (next : List Placed) → AreItemsInOrder items → item_at items s ≡ Some i
    → IsNumberFor i places n → (n ≤ length places → (k : ℕ) → list_at new k ≡ cond (k == n) (Some l) (list_at places k)) → l.at ≡ s → m ≡ remarked i n true → next ≡ put_item items m
    → (base : List ℕ) (first : List Placed) (pending : List (List ℕ)) → IsTree (rows_of first) → has_own_list (rows_of first) s ≡ true → l.rules.list ≡ list_rules base (rows_of first) s
    → AreNumbered base first (s ∷ pending) items places → AreNumbered base first pending next new
with_list items s i places new n l m next o e for set at is_m is_next base first pending tree has ruled a =
    listed base first pending items next places new s n l tree has at ruled free
    (ap rows_of whole ∙ remarked_rows items s i n true o e)
    (λ q. ap (λ (is : List Placed). own_number is q) whole ∙ remarked_number items s i n true q e)
    (set within) a
  where
    whole : next ≡ put_item items (remarked i n true)
    whole = is_next ∙ ap (put_item items) is_m

    number : own_number items s ≡ own_if i.own i.list
    number = ap own_of e

    by_own : i.own ≡ true → i.list ≡ n → own_number items s ≡ Some n
    by_own b k = number ∙ ap (λ (x : Bool). own_if x i.list) b ∙ ap (λ (x : ℕ). Some x) k

    free : IsFree items places s n
    free = record { is = ⊎_elim (λ f. inl (by_own f.0 f.1)) (λ f. inr (number ∙ ap (λ (x : Bool). own_if x i.list) f.0, f.1)) for }

    within : n ≤ length places
    within = ⊎_elim
        (λ f.
        let old = a.lists s n (tree.plain s has) (by_own f.0 f.1) has in
        list_within places n old.list old.found)
        (λ f. f.2) for

pub beside : (items : List Placed) (s : List ℕ) (i : Placed) (n : ℕ) (b : Bool) (m : Placed) (next : List Placed) → item_at items s ≡ Some i → m ≡ remarked i n b → next ≡ put_item items m
    → (q : List ℕ) → bytes_eq s q ≡ false → item_at next q ≡ item_at items q
beside items s i n b m next e is_m is_next q h =
    ap (λ (is : List Placed). item_at is q) (is_next ∙ ap (put_item items) is_m) ∙ remarked_beside items s i n b q e h

-- a subject with a list is a row
pub no_row : (items : List Placed) (s : List ℕ) (base : List ℕ) (first : List Placed) (pending : List (List ℕ)) (places : Places) → item_at items s ≡ None → IsTree (rows_of first)
    → has_own_list (rows_of first) s ≡ true → AreNumbered base first (s ∷ pending) items places → ⊥
no_row items s base first pending places e tree has a =
    true≢false (sym (tree.subjects s has) ∙ ap (λ rs. is_row rs s) (sym a.rows) ∙ sym (found_is items s) ∙ ap is_some e)

pub without_list : (items : List Placed) (s : List ℕ) (i : Placed) (n : ℕ) (m : Placed) (next : List Placed) → AreItemsInOrder items → item_at items s ≡ Some i → m ≡ remarked i n false → next ≡ put_item items m
    → (base : List ℕ) (first : List Placed) (pending : List (List ℕ)) (places : Places) → has_own_list (rows_of first) s ≡ false
    → AreNumbered base first (s ∷ pending) items places → AreNumbered base first pending next places
without_list items s i n m next o e is_m is_next base first pending places lacks a =
    unlisted base first pending items next places s lacks
    (ap rows_of whole ∙ remarked_rows items s i n false o e)
    (λ q. ap (λ (is : List Placed). own_number is q) whole ∙ remarked_number items s i n false q e)
    a
  where
    whole : next ≡ put_item items (remarked i n false)
    whole = is_next ∙ ap (put_item items) is_m

pub without_row : (items : List Placed) (s : List ℕ) (next : List Placed) → item_at items s ≡ None → next ≡ items
    → (base : List ℕ) (first : List Placed) (pending : List (List ℕ)) (places : Places) → has_own_list (rows_of first) s ≡ false
    → AreNumbered base first (s ∷ pending) items places → AreNumbered base first pending next places
without_row items s next e is base first pending places lacks a =
    unlisted base first pending items next places s lacks (ap rows_of is) (λ q. ap (λ (xs : List Placed). own_number xs q) is ∙ by_test q (bytes_eq s q) refl) a
  where
    by_test : (q : List ℕ) (t : Bool) → bytes_eq s q ≡ t → own_number items q ≡ cond t None (own_number items q)
    by_test q true h = ap (own_number items) (sym (same_eq s q h)) ∙ ap own_of e
    by_test q false h = refl

-- what the rules of a list are, where it is a row
pub rules_own : (base : List ℕ) (rows : List Row) (s : List ℕ) (rules : List Rule) → Some rules ≡ Rattle.pod_pages.specs.Numbering.rules_found base (row_at rows (list_path s))
    → (has_own_list rows s ≡ true) × (rules ≡ list_rules base rows s)
rules_own base rows s rules h = by_row (row_at rows (list_path s)) h
  where
    by_row : (o : Option Row) → Some rules ≡ Rattle.pod_pages.specs.Numbering.rules_found base o → (is_some o ≡ true) × (rules ≡ Rattle.pod_rows.specs.Access.rules_of_row base o)
    by_row None e = absurd cc
    by_row (Some row) e = (refl, cc)

pub rules_none : (base : List ℕ) (rows : List Row) (s : List ℕ) → None ≡ Rattle.pod_pages.specs.Numbering.rules_found base (row_at rows (list_path s)) → has_own_list rows s ≡ false
rules_none base rows s h = by_row (row_at rows (list_path s)) h
  where
    by_row : (o : Option Row) → None ≡ Rattle.pod_pages.specs.Numbering.rules_found base o → is_some o ≡ false
    by_row None e = refl
    by_row (Some row) e = absurd cc

-- ---- one more subject

or_none : (a : Bool) → (a || false) ≡ a
or_none true = refl
or_none false = refl

or_group : (a b c : Bool) → (a || (b || c)) ≡ ((a || b) || c)
or_group true b c = refl
or_group false b c = refl

listed_end : (xs : List (List ℕ)) (x q : List ℕ) → is_listed (xs ++ x ∷ []) q ≡ (is_listed xs q || bytes_eq x q)
listed_end [] x q = or_none (bytes_eq x q)
listed_end (y ∷ ys) x q = ap (λ (b : Bool). bytes_eq y q || b) (listed_end ys x q) ∙ or_group (bytes_eq y q) (is_listed ys q) (bytes_eq x q)

pub others_more : (subjects : List (List ℕ)) (i : ℕ) (s : List ℕ) (rows items next : List Placed) → i < length subjects → s ≡ get_or subjects i s
    → ((q : List ℕ) → bytes_eq s q ≡ false → item_at next q ≡ item_at items q) → ((q : List ℕ) → is_listed (take i subjects) q ≡ false → item_at items q ≡ item_at rows q)
    → (q : List ℕ) → is_listed (take (i + 1) subjects) q ≡ false → item_at next q ≡ item_at rows q
others_more subjects i s rows items next lt e step before q h =
    let whole : is_listed (take (i + 1) subjects) q ≡ (is_listed (take i subjects) q || bytes_eq s q) =
    ap (λ (xs : List (List ℕ)). is_listed xs q) (take_more subjects i s lt ∙ ap (λ (x : List ℕ). take i subjects ++ x ∷ []) (sym e)) ∙ listed_end (take i subjects) s q in
    let parts = or_parts (is_listed (take i subjects) q) (bytes_eq s q) (sym whole ∙ h) in
    step q parts.1 ∙ before q parts.0

pub numbered_more : (base : List ℕ) (first : List Placed) (subjects : List (List ℕ)) (i : ℕ) (s : List ℕ) (items next : List Placed) (places new : Places) → i < length subjects → s ≡ get_or subjects i s
    → ((pending : List (List ℕ)) → AreNumbered base first (s ∷ pending) items places → AreNumbered base first pending next new)
    → AreNumbered base first (drop i subjects) items places → AreNumbered base first (drop (i + 1) subjects) next new
numbered_more base first subjects i s items next places new lt e step a =
    let whole : drop i subjects ≡ s ∷ drop (i + 1) subjects = drop-cons subjects i s lt ∙ ap (λ (x : List ℕ). x ∷ drop (suc i) subjects) (sym e) ∙ ap (λ (n : ℕ). s ∷ drop n subjects) (sym (add-one i)) in
    step (drop (i + 1) subjects) (subst (λ (xs : List (List ℕ)). AreNumbered base first xs items places) whole a)
