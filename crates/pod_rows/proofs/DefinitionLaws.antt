-- What follows from the definitions.
use Rattle.std.proofs.Common.{◌≡◌, ◌↔◌, ◌<◌, ◌==◌, ℕ, zero, suc, Bool, true, false, not, cond, List, [], ◌∷◌, ◌++◌, length, take, drop, filter, Option, Some, None, Ok, refl, sym, ap, ◌∙◌, subst, arith, ⊎_elim}
use Rattle.std.specs.Prelude.{IsTrue, is_some, bytes_eq}
use Rattle.std.specs.List.{Contains, list_all}
use Rattle.std.proofs.lemmas.Bool.{and_parts, false≢true, not-true, eqb-true, eqb-false, cases_order}
use Rattle.std.proofs.lemmas.List.{take-append-drop}
use Rattle.std.proofs.lemmas.Slice.Eq.{bytes_eq-Decides}
use Rattle.rdf_graph.proofs.Members.{contains_cases, contains_here, contains_there, contains_none, contains_filter}
use Rattle.acl_rules.proofs.NodeRules.{contains_image}
use Rattle.pod_path.specs.Hierarchy.{IsInside, IsUnder, is_auxiliary, is_container, parent_of}
use Rattle.pod_path.specs.Norm.{IsPath, norm}
use Rattle.pod_path.proofs.NormalPaths.{parts_of}
use Rattle.pod_path.proofs.Ancestors.{inside_under, under_inside}
use Rattle.pod_command.specs.Encodable.{AreInOrder}
use Rattle.pod_command.specs.declared.entry.Entry.{Entry}
use Rattle.pod_command.specs.declared.row.Row.{Row}
use Rattle.pod_rows.specs.Apply.{Applies, applied, with_rows_if}
use Rattle.pod_rows.specs.Pod.{Pod, row_at, is_row}
use Rattle.pod_rows.specs.Tree.{ancestors, beginnings, children_of, is_child_of, is_the_path}
use Rattle.pod_rows.specs.WellFormed.{WellFormed, has_normal_path}
use Rattle.pod_rows.proofs.OrderedRows.{itself, order_first, order_rest, other_more, After}
use Rattle.pod_rows.proofs.Tests.{parse_is}

-- ---- ancestors

-- ---- lengths

dropped : (path : List ℕ) (m : ℕ) → m < length path → 0 < length (drop m path)
dropped [] m h = absurd (omega (arith, h))
dropped (c ∷ cs) zero h = omega arith
dropped (c ∷ cs) (suc m) h = dropped cs m (omega (arith, h))

cut : (q rest path : List ℕ) → path ≡ q ++ rest → 0 < length rest → length q < length path
cut q rest path e h = subst (λ (x : List ℕ). length q < length x) (sym e) (longer q rest h)
  where
    longer : (q rest : List ℕ) → 0 < length rest → length q < length (q ++ rest)
    longer [] rest h = h
    longer (c ∷ cs) rest h = let l = longer cs rest h in omega (arith, l)

taken : (q rest : List ℕ) → take (length q) (q ++ rest) ≡ q
taken [] rest = refl
taken (c ∷ cs) rest = ap (λ (x : List ℕ). c ∷ x) (taken cs rest)

below : (m n : ℕ) → m < suc n → (m ≡ n → ⊥) → m < n
below m n h other = ⊎_elim (λ e. absurd (other e)) (λ s. ⊎_elim (λ l. l) (λ l. absurd (omega (arith, h, l))) s) (cases_order m n)

begun : (path : List ℕ) (n : ℕ) (q : List ℕ) → Contains (beginnings path n) q → (m : ℕ) × (m < n) × (q ≡ take m path)
begun path zero q h = absurd (contains_none q h)
begun path (suc n) q h =
    ⊎_elim (λ e. (n, omega arith, sym e))
    (λ c. let b = begun path n q c in (b.0, omega (arith, b.1), b.2))
    (contains_cases (take n path) (beginnings path n) q h)

begins : (path : List ℕ) (n m : ℕ) → m < n → Contains (beginnings path n) (take m path)
begins path zero m h = absurd (omega (arith, h))
begins path (suc n) m h = by_last (m == n) refl (λ l. begins path n m l)
  where
    by_last : (b : Bool) → (m == n) ≡ b → (m < n → Contains (beginnings path n) (take m path)) → Contains (take n path ∷ beginnings path n) (take m path)
    by_last true e more = subst (λ (k : ℕ). Contains (take n path ∷ beginnings path n) (take k path)) (sym (eqb-true m n e)) (contains_here (take n path) (beginnings path n))
    by_last false e more = let other : (m ≡ n → ⊥) = eqb-false m n e in contains_there (take n path) (beginnings path n) (take m path) (more (below m n h other))

above_inside : (path q : List ℕ) → Contains (ancestors path) q → IsInside path q
above_inside path q h =
    let f = (contains_filter is_container (beginnings path (length path)) q).0 h in
    let b = begun path (length path) q f.0 in
    record {
      container = f.1;
      rest = drop b.0 path;
      whole = sym (take-append-drop b.0 path) ∙ ap (λ (x : List ℕ). x ++ drop b.0 path) (sym b.2);
      more = dropped path b.0 b.1;
    }

inside_above : (path q : List ℕ) → IsInside path q → Contains (ancestors path) q
inside_above path q h =
    let shorter : length q < length path = cut q h.rest path h.whole h.more in
    let is : take (length q) path ≡ q = ap (take (length q)) h.whole ∙ taken q h.rest in
    (contains_filter is_container (beginnings path (length path)) q).1
    (subst (Contains (beginnings path (length path))) is (begins path (length path) (length q) shorter), h.container)

pub above_under : (path q : List ℕ) → IsPath path → Contains (ancestors path) q ↔ IsUnder path q
above_under path q h =
    (λ c. inside_under path q (above_inside path q c), λ u. inside_above path q (under_inside path q (parts_of path h).characters u))

-- ---- rows

not_twice : (r s : Row) (rs : List Row) → After r.path rs → Contains rs s → bytes_eq r.path s.path ≡ false
not_twice r s [] a c = absurd (contains_none s c)
not_twice r s (x ∷ xs) a c =
    ⊎_elim (λ e. subst (λ (y : Row). bytes_eq r.path y.path ≡ false) e (other_more x.path r.path a.0)) (λ d. not_twice r s xs a.1 d) (contains_cases x xs s c)

pub row_found : (rows : List Row) (row : Row) → AreInOrder rows → Contains rows row → row_at rows row.path ≡ Some row
row_found [] row o c = absurd (contains_none row c)
row_found (r ∷ rs) row o c =
    ⊎_elim
    (λ e. ap (λ (b : Bool). cond b (Some r) (row_at rs row.path)) (subst (λ (x : Row). bytes_eq r.path x.path ≡ true) e (itself r.path)) ∙ ap (λ (x : Row). Some x) e)
    (λ d. ap (λ (b : Bool). cond b (Some r) (row_at rs row.path)) (not_twice r row rs (order_first r rs o) d) ∙ row_found rs row (order_rest r rs o) d)
    (contains_cases r rs row c)

pub all_at : (p : Row → Bool) (rows : List Row) (row : Row) → list_all p rows ≡ true → Contains rows row → p row ≡ true
all_at p [] row h c = absurd (contains_none row c)
all_at p (r ∷ rs) row h c =
    let parts = and_parts (p r) (list_all p rs) h in
    ⊎_elim (λ e. subst (λ (x : Row). p x ≡ true) e parts.0) (λ d. all_at p rs row parts.1 d) (contains_cases r rs row c)

pub row_normal : (pod : Pod) (row : Row) → WellFormed pod → Contains pod.rows row → norm row.path ≡ Ok row.path
unfolding has_normal_path
row_normal pod row w c = parse_is (norm row.path) row.path (all_at has_normal_path pod.rows row w.paths c)

-- ---- children

is_some_at : (rows : List Row) (row : Row) → Contains rows row → is_some (row_at rows row.path) ≡ true
is_some_at [] row c = absurd (contains_none row c)
is_some_at (r ∷ rs) row c =
    ⊎_elim
    (λ e. ap (λ (b : Bool). is_some (cond b (Some r) (row_at rs row.path))) (subst (λ (x : Row). bytes_eq r.path x.path ≡ true) e (itself r.path)))
    (λ d. either (bytes_eq r.path row.path) (is_some_at rs row d))
    (contains_cases r rs row c)
  where
    either : (b : Bool) → is_some (row_at rs row.path) ≡ true → is_some (cond b (Some r) (row_at rs row.path)) ≡ true
    either true h = refl
    either false h = h

parent_is : (container : List ℕ) (o : Option (List ℕ)) → is_the_path container o ≡ true → o ≡ Some container
parent_is container None h = absurd (false≢true h)
parent_is container (Some other) h = ap (λ (x : List ℕ). Some x) ((bytes_eq-Decides other container).0 h)

pub child_row : (rows : List Row) (container child : List ℕ) → Contains (children_of rows container) child
    → (parent_of child ≡ Some container) × (is_auxiliary child ≡ false) × IsTrue (is_row rows child)
child_row rows container child c =
    let image = contains_image (λ (row : Row). row.path) (filter (is_child_of container) rows) child c in
    let row = image.at in
    let kept = (contains_filter (is_child_of container) rows row).0 image.member in
    let parts = and_parts (not (is_auxiliary row.path)) (is_the_path container (parent_of row.path)) kept.1 in (
      ap parent_of (sym image.is) ∙ parent_is container (parent_of row.path) parts.1,
      ap is_auxiliary (sym image.is) ∙ not-true (is_auxiliary row.path) parts.0,
      subst (λ (x : List ℕ). is_row rows x ≡ true) image.is (is_some_at rows row kept.0),
    )

-- ---- entries

pub kept_by : (pod : Pod) (next : ℕ) (entry : Entry) → Applies pod next entry → WellFormed (applied pod entry)
kept_by pod next entry a = subst WellFormed (sym (ap (with_rows_if pod) a.edits)) a.well_formed
