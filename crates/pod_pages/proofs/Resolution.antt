-- Which list governs a path, by the numbers of the rows that have lists.
use Rattle.std.proofs.Common.{◌≡◌, ◌<◌, ◌-◌, ℕ, zero, suc, Bool, true, false, cond, List, [], ◌∷◌, length, take, filter, Option, Some, None, refl, sym, ap, ◌∙◌, subst}
use Rattle.std.specs.Prelude.{is_some}
use Rattle.std.specs.List.{find, AllByRecursion}
use Rattle.std.proofs.lemmas.Bool.{true≢false, false≢true}
use Rattle.acl_rules.specs.declared.rule.How.TheVariants.{Own, Inherited}
use Rattle.pod_path.specs.Hierarchy.{root, is_container, subject_of}
use Rattle.pod_path.specs.Norm.{IsPath}
use Rattle.pod_command.specs.declared.row.Row.{Row}
use Rattle.pod_rows.specs.Access.{Governs, about, effective_of, governed, governs, has_own_list, inherited}
use Rattle.pod_rows.specs.Tree.{ancestors, beginnings}
use Rattle.pod_rows.proofs.Lookups.{one_shorter}
use Rattle.access_index.proofs.Governance.{about_path, container_plain, no_subject, root_found, subject_plain}
use Rattle.row_pages.specs.Items.{Placed, item_at, rows_of}
use Rattle.pod_pages.specs.Marks.{how_of, mark, mark_by, own_if, own_of, own_number, or_number, first_number, path_mark, container_number}
use Rattle.pod_pages.specs.Numbering.{IsTree, IsListOf, IsGoverned, AreResolved}
use Rattle.pod_pages.specs.declared.list_table.AccessList.{AccessList}
use Rattle.pod_pages.proofs.Placing.{found_is}

-- a path that is no access list and no description
abbrev pub Plain : List ℕ → Type 0
Plain path = subject_of path ≡ None

-- the numbers are those of the paths with lists
abbrev pub Has : List Row → List Placed → Type 0
Has rows items = (path : List ℕ) → subject_of path ≡ None → has_own_list rows path ≡ is_some (own_number items path)

pub about_plain : (path : List ℕ) → IsPath path → Plain (about path (subject_of path))
about_plain path h = by_subject (subject_of path) refl
  where
    by_subject : (o : Option (List ℕ)) → subject_of path ≡ o → Plain (about path o)
    by_subject None e = e
    by_subject (Some s) e = no_subject s (subject_plain path s h e)

all_plain : (text : List ℕ) (n : ℕ) → AllByRecursion Plain (filter is_container (beginnings text n))
all_plain text zero = tt
all_plain text (suc n) = by_kind (is_container (take n text)) refl (all_plain text n)
  where
    by_kind : (b : Bool) → is_container (take n text) ≡ b → AllByRecursion Plain (filter is_container (beginnings text n)) → AllByRecursion Plain (cond b (take n text ∷ filter is_container (beginnings text n)) (filter is_container (beginnings text n)))
    by_kind true e more = (no_subject (take n text) (container_plain (take n text) e), more)
    by_kind false e more = more

pub plain_ancestors : (text : List ℕ) → AllByRecursion Plain (ancestors text)
plain_ancestors text = all_plain text (length text)

pub some_is : {X : Type 0} (o : Option X) → is_some o ≡ true → (x : X) × (o ≡ Some x)
some_is None h = absurd (false≢true h)
some_is (Some x) h = (x, refl)

pub none_is : {X : Type 0} (o : Option X) → is_some o ≡ false → o ≡ None
none_is None h = refl
none_is (Some x) h = absurd (true≢false h)

-- the first of some paths with a list
pub record First (rows : List Row) (items : List Placed) (paths : List (List ℕ)) : Type 0 where
  pub at : List ℕ
  pub number : ℕ
  pub hit : find (has_own_list rows) paths ≡ Some at
  pub found : first_number items paths ≡ Some number
  pub own : own_number items at ≡ Some number
  pub plain : Plain at
  pub has : has_own_list rows at ≡ true

first_of : (rows : List Row) (items : List Placed) → Has rows items → (paths : List (List ℕ)) → AllByRecursion Plain paths → is_some (find (has_own_list rows) paths) ≡ true → First rows items paths
first_of rows items has [] plain h = absurd (false≢true h)
first_of rows items has (p ∷ ps) plain h = by_own (has_own_list rows p) refl h (first_of rows items has ps plain.1)
  where
    by_own : (b : Bool) → has_own_list rows p ≡ b → is_some (cond b (Some p) (find (has_own_list rows) ps)) ≡ true → (is_some (find (has_own_list rows) ps) ≡ true → First rows items ps) → First rows items (p ∷ ps)
    by_own true e k more =
        let n = some_is (own_number items p) (sym (has p plain.0) ∙ e) in
        record {
          at = p;
          number = n.0;
          hit = ap (λ (b : Bool). cond b (Some p) (find (has_own_list rows) ps)) e;
          found = ap (λ (o : Option ℕ). or_number o (first_number items ps)) n.1;
          own = n.1;
          plain = plain.0;
          has = e;
        }
    by_own false e k more =
        let f = more k in
        let n = none_is (own_number items p) (sym (has p plain.0) ∙ e) in
        record {
          at = f.at;
          number = f.number;
          hit = ap (λ (b : Bool). cond b (Some p) (find (has_own_list rows) ps)) e ∙ f.hit;
          found = ap (λ (o : Option ℕ). or_number o (first_number items ps)) n ∙ f.found;
          own = f.own;
          plain = f.plain;
          has = f.has;
        }

-- what governs a path, and its number
pub record Resolved (rows : List Row) (items : List Placed) (path : List ℕ) : Type 0 where
  pub at : List ℕ
  pub number : ℕ
  pub is_own : Bool
  pub governs : effective_of rows path ≡ Some (governed at (how_of is_own))
  pub mark : path_mark items path ≡ Some (mark number is_own)
  pub own : own_number items at ≡ Some number
  pub plain : Plain at
  pub has : has_own_list rows at ≡ true

pub resolve : (rows : List Row) (items : List Placed) → Has rows items → has_own_list rows root ≡ true → (path : List ℕ) → IsPath path → Resolved rows items path
resolve rows items has rooted path h = by_own (has_own_list rows text) refl
  where
    text : List ℕ
    text = about path (subject_of path)

    plain : Plain text
    plain = about_plain path h

    by_own : (b : Bool) → has_own_list rows text ≡ b → Resolved rows items path
    by_own true e =
        let n = some_is (own_number items text) (sym (has text plain) ∙ e) in
        record {
          at = text;
          number = n.0;
          is_own = true;
          governs = ap (λ (b : Bool). cond b (Some (governed text Own)) (inherited (find (has_own_list rows) (ancestors text)))) e;
          mark = ap (λ (o : Option ℕ). mark_by o (first_number items (ancestors text))) n.1;
          own = n.1;
          plain = plain;
          has = e;
        }
    by_own false e =
        let n = none_is (own_number items text) (sym (has text plain) ∙ e) in
        let f = first_of rows items has (ancestors text) (plain_ancestors text) (root_found (has_own_list rows) text (about_path path h) rooted e) in
        record {
          at = f.at;
          number = f.number;
          is_own = false;
          governs = ap (λ (b : Bool). cond b (Some (governed text Own)) (inherited (find (has_own_list rows) (ancestors text)))) e ∙ ap inherited f.hit;
          mark = ap (λ (o : Option ℕ). mark_by o (first_number items (ancestors text))) n ∙ ap (mark_by None) f.found;
          own = f.own;
          plain = f.plain;
          has = f.has;
        }

-- ---- a list that governs is there

hit_has : (p : List ℕ → Bool) (xs : List (List ℕ)) (x : List ℕ) → find p xs ≡ Some x → p x ≡ true
hit_has p [] x e = absurd cc
hit_has p (y ∷ ys) x e = by_test (p y) refl e (hit_has p ys x)
  where
    by_test : (b : Bool) → p y ≡ b → cond b (Some y) (find p ys) ≡ Some x → (find p ys ≡ Some x → p x ≡ true) → p x ≡ true
    by_test true h k more = let same : y ≡ x = cc in ap p (sym same) ∙ h
    by_test false h k more = more k

inherited_at : (o : Option (List ℕ)) (g : Governs) → inherited o ≡ Some g → (o ≡ Some g.at) × (g.how ≡ Inherited)
inherited_at None g e = absurd cc
inherited_at (Some at) g e =
    let same : governed at Inherited ≡ g = cc in
    (ap (λ (x : Governs). Some x.at) same, sym (ap (λ (x : Governs). x.how) same))

pub governing_has : (rows : List Row) (path : List ℕ) (g : Governs) → effective_of rows path ≡ Some g → has_own_list rows g.at ≡ true
governing_has rows path g e = by_own (has_own_list rows text) refl e
  where
    text : List ℕ
    text = about path (subject_of path)

    by_own : (b : Bool) → has_own_list rows text ≡ b → cond b (Some (governed text Own)) (inherited (find (has_own_list rows) (ancestors text))) ≡ Some g → has_own_list rows g.at ≡ true
    by_own true h k =
        let same : governed text Own ≡ g = cc in
        ap (λ (x : Governs). has_own_list rows x.at) (sym same) ∙ h
    by_own false h k = hit_has (has_own_list rows) (ancestors text) g.at (inherited_at (find (has_own_list rows) (ancestors text)) g k).0

-- ---- the numbers of a version

own_how : (b : Bool) → how_of b ≡ Own → b ≡ true
own_how true e = refl
own_how false e = absurd (inherited_own e)
  where
    inherited_own : Inherited ≡ Own → ⊥
    inherited_own k = absurd cc

inherited_how : (b : Bool) → how_of b ≡ Inherited → b ≡ false
inherited_how true e = absurd cc
inherited_how false e = refl

-- the item of a path that is no auxiliary: whether it has a list of its own
own_is : (items : List Placed) (places : List (Option AccessList)) (path : List ℕ) (i : Placed) → Plain path → IsGoverned items places path i
    → (has_own_list (rows_of items) path ≡ i.own) × (i.own ≡ true → IsListOf places i.list path)
own_is items places path i plain g = by_own (has_own_list (rows_of items) path) refl (ap (λ (o : Option (List ℕ)). governs (rows_of items) (about path o)) (sym plain) ∙ g.governs)
  where
    by_own : (b : Bool) → has_own_list (rows_of items) path ≡ b → cond b (Some (governed path Own)) (inherited (find (has_own_list (rows_of items)) (ancestors path))) ≡ Some (governed g.list.at (how_of i.own))
        → (has_own_list (rows_of items) path ≡ i.own) × (i.own ≡ true → IsListOf places i.list path)
    by_own true e k =
        let same : governed path Own ≡ governed g.list.at (how_of i.own) = cc in
        let own : i.own ≡ true = own_how i.own (sym (ap (λ (x : Governs). x.how) same)) in
        (e ∙ sym own, λ o. record { list = g.list; found = g.found; is = sym (ap (λ (x : Governs). x.at) same) })
    by_own false e k =
        let how = (inherited_at (find (has_own_list (rows_of items)) (ancestors path)) (governed g.list.at (how_of i.own)) k).1 in
        let own : i.own ≡ false = inherited_how i.own how in
        (e ∙ sym own, λ o. absurd (true≢false (sym o ∙ own)))

some_own : (b : Bool) (n : ℕ) → is_some (own_if b n) ≡ b
some_own true n = refl
some_own false n = refl

own_true : (b : Bool) (n m : ℕ) → own_if b n ≡ Some m → (b ≡ true) × (n ≡ m)
own_true true n m e = (refl, cc)
own_true false n m e = absurd cc

pub resolved_has : (base : List ℕ) (items : List Placed) (places : List (Option AccessList)) → IsTree (rows_of items) → AreResolved base items places → Has (rows_of items) items
resolved_has base items places tree r path plain = by_item (item_at items path) refl
  where
    by_item : (o : Option Placed) → item_at items path ≡ o → has_own_list (rows_of items) path ≡ is_some (own_of o)
    by_item None e = by_own (has_own_list (rows_of items) path) refl
      where
        by_own : (b : Bool) → has_own_list (rows_of items) path ≡ b → b ≡ false
        by_own true h = absurd (true≢false (sym (tree.subjects path h) ∙ sym (found_is items path) ∙ ap is_some e))
        by_own false h = refl
    by_item (Some i) e = (own_is items places path i plain (r.governed path i e)).0 ∙ sym (some_own i.own i.list)

pub resolved_lists : (base : List ℕ) (items : List Placed) (places : List (Option AccessList)) → AreResolved base items places
    → (path : List ℕ) (number : ℕ) → Plain path → own_number items path ≡ Some number → IsListOf places number path
resolved_lists base items places r path number plain h = by_item (item_at items path) refl h
  where
    by_item : (o : Option Placed) → item_at items path ≡ o → own_of o ≡ Some number → IsListOf places number path
    by_item None e k = absurd cc
    by_item (Some i) e k =
        let own = own_true i.own i.list number k in
        subst (λ (n : ℕ). IsListOf places n path) own.1 ((own_is items places path i plain (r.governed path i e)).1 own.0)

-- ---- the walk from a path up

pub number_step : (items : List Placed) (path : List ℕ) (n : ℕ) → 0 < n
    → first_number items (filter is_container (beginnings path n)) ≡ or_number (container_number items (take (n - 1) path)) (first_number items (filter is_container (beginnings path (n - 1))))
number_step items path n h =
    ap (λ ps. first_number items (filter is_container ps)) (one_shorter path n h) ∙ by_kind (is_container (take (n - 1) path))
  where
    by_kind : (b : Bool) → first_number items (cond b (take (n - 1) path ∷ filter is_container (beginnings path (n - 1))) (filter is_container (beginnings path (n - 1))))
        ≡ or_number (cond b (own_number items (take (n - 1) path)) None) (first_number items (filter is_container (beginnings path (n - 1))))
    by_kind true = refl
    by_kind false = refl

pub found_first : (items : List Placed) (path : List ℕ) (n : ℕ) (o : Option ℕ) → 0 < n → is_some o ≡ true → o ≡ container_number items (take (n - 1) path)
    → first_number items (ancestors path) ≡ first_number items (filter is_container (beginnings path n)) → o ≡ first_number items (ancestors path)
found_first items path n o some there e so_far =
    sym (so_far ∙ number_step items path n some ∙ ap (λ (x : Option ℕ). or_number x (first_number items (filter is_container (beginnings path (n - 1))))) (sym e) ∙ chosen o there)
  where
    chosen : (x : Option ℕ) → is_some x ≡ true → or_number x (first_number items (filter is_container (beginnings path (n - 1)))) ≡ x
    chosen None h = absurd (false≢true h)
    chosen (Some k) h = refl
