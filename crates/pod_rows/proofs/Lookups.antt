-- Which access list governs a path, among the lists of rows.
use Rattle.std.proofs.Common.{◌≡◌, ◌<◌, ◌-◌, ℕ, zero, suc, Bool, true, false, cond, List, [], ◌∷◌, ◌++◌, take, filter, Option, Some, None, refl, sym, ap, ◌∙◌, arith, option_map, option_copied, Bor}
use Rattle.std.specs.Prelude.{IsTrue, codes, bytes_eq, is_some}
use Rattle.std.specs.List.{find, filter_map, cons_option}
use Rattle.std.proofs.lemmas.Bool.{true≢false, false_from_ne_true}
use Rattle.std.proofs.lemmas.Slice.Eq.{bytes_eq-Decides}
use Rattle.pod_path.specs.Hierarchy.{is_acl, is_container, without_end}
use Rattle.pod_path.proofs.Names.{ends_is, ends_append, without_append}
use Rattle.pod_command.specs.declared.row.Row.{Row}
use Rattle.pod_rows.specs.Access.{list_path, has_own_list, rules_in, rules_of_row, rules_at}
use Rattle.pod_rows.specs.AclLists.{acl_list, list_of, lists_of, is_list_of, or_else, first_list, container_list}
use Rattle.pod_rows.specs.Pod.{Pod, is_at, row_at}
use Rattle.pod_rows.specs.Tree.{beginnings}
use Rattle.pod_rows.specs.declared.acl_list.AclList.{AclList}

-- the list of a path, by the row of the list
abbrev pub list_from : List ℕ → List ℕ → Option Row → Option AclList
list_from base path None = None
list_from base path (Some row) = Some (acl_list path (rules_in base row.content))

other_row : (path : List ℕ) (row : Row) → is_at (list_path path) row ≡ false → IsTrue (is_acl row.path) → bytes_eq (without_end 4 row.path) path ≡ false
other_row path row h e =
    false_from_ne_true (bytes_eq (without_end 4 row.path) path)
    (λ same. true≢false (sym ((bytes_eq-Decides row.path (list_path path)).1 (ends_is row.path (codes ".acl") e ∙ ap (λ (p : List ℕ). p ++ codes ".acl") ((bytes_eq-Decides (without_end 4 row.path) path).0 same))) ∙ h))

pub list_found : (base : List ℕ) (rows : List Row) (path : List ℕ) → find (is_list_of path) (lists_of base rows) ≡ list_from base path (row_at rows (list_path path))
list_found base [] path = refl
list_found base (row ∷ rows) path = by_test (is_at (list_path path) row) refl (list_found base rows path)
  where
    skip : (a : Bool) → is_acl row.path ≡ a → is_at (list_path path) row ≡ false → find (is_list_of path) (lists_of base rows) ≡ list_from base path (row_at rows (list_path path))
        → find (is_list_of path) (filter_map (list_of base) (row ∷ rows)) ≡ list_from base path (row_at rows (list_path path))
    skip true a h more =
        ap (λ (b : Bool). find (is_list_of path) (cons_option (cond b (Some (acl_list (without_end 4 row.path) (rules_in base row.content))) None) (lists_of base rows))) a
        ∙ ap (λ (b : Bool). cond b (Some (acl_list (without_end 4 row.path) (rules_in base row.content))) (find (is_list_of path) (lists_of base rows))) (other_row path row h a)
        ∙ more
    skip false a h more =
        ap (λ (b : Bool). find (is_list_of path) (cons_option (cond b (Some (acl_list (without_end 4 row.path) (rules_in base row.content))) None) (lists_of base rows))) a
        ∙ more

    here : row.path ≡ list_path path → find (is_list_of path) (filter_map (list_of base) (row ∷ rows)) ≡ Some (acl_list path (rules_in base row.content))
    here e =
        ap (λ (b : Bool). find (is_list_of path) (cons_option (cond b (Some (acl_list (without_end 4 row.path) (rules_in base row.content))) None) (lists_of base rows)))
        (ap is_acl e ∙ ends_append path (codes ".acl"))
        ∙ ap (λ (b : Bool). cond b (Some (acl_list (without_end 4 row.path) (rules_in base row.content))) (find (is_list_of path) (lists_of base rows)))
        ((bytes_eq-Decides (without_end 4 row.path) path).1 (ap (without_end 4) e ∙ without_append path (codes ".acl")))
        ∙ ap (λ (p : List ℕ). Some (acl_list p (rules_in base row.content))) (ap (without_end 4) e ∙ without_append path (codes ".acl"))

    by_test : (b : Bool) → is_at (list_path path) row ≡ b → find (is_list_of path) (lists_of base rows) ≡ list_from base path (row_at rows (list_path path))
        → find (is_list_of path) (filter_map (list_of base) (row ∷ rows)) ≡ list_from base path (cond b (Some row) (row_at rows (list_path path)))
    by_test true h more = here ((bytes_eq-Decides row.path (list_path path)).0 h)
    by_test false h more = skip (is_acl row.path) refl h more

-- ---- the containers that a path begins with

pub one_shorter : (path : List ℕ) (n : ℕ) → 0 < n → beginnings path n ≡ take (n - 1) path ∷ beginnings path (n - 1)
one_shorter path zero h = absurd (omega (arith, h))
one_shorter path (suc n) h = let e : suc n - 1 ≡ n = omega arith in rw e refl

pub list_step : (lists : List AclList) (path : List ℕ) (n : ℕ) → 0 < n
    → first_list lists (filter is_container (beginnings path n)) ≡ or_else (container_list lists (take (n - 1) path)) (first_list lists (filter is_container (beginnings path (n - 1))))
list_step lists path n h =
    ap (λ ps. first_list lists (filter is_container ps)) (one_shorter path n h) ∙ by_kind (is_container (take (n - 1) path))
  where
    by_kind : (b : Bool) → first_list lists (cond b (take (n - 1) path ∷ filter is_container (beginnings path (n - 1))) (filter is_container (beginnings path (n - 1))))
        ≡ or_else (cond b (find (is_list_of (take (n - 1) path)) lists) None) (first_list lists (filter is_container (beginnings path (n - 1))))
    by_kind true = refl
    by_kind false = refl

-- what is lent, where there is nothing
pub none_of : (o : Option (Bor AclList)) (p : Option AclList) → option_copied o ≡ p → is_some o ≡ false → p ≡ None
none_of None p e h = sym e
none_of (Some l) p e h = absurd (true≢false h)

-- ---- what the lists say is what the definition says

-- the first list, and the first path that has one
pub first_governs : (base : List ℕ) (rows : List Row) (paths : List (List ℕ))
    → option_map (λ (l : AclList). l.at) (first_list (lists_of base rows) paths) ≡ find (has_own_list rows) paths
first_governs base rows [] = refl
first_governs base rows (path ∷ paths) =
    ap (λ o. option_map (λ (l : AclList). l.at) (or_else o (first_list (lists_of base rows) paths))) (list_found base rows path)
    ∙ by_row (row_at rows (list_path path)) (first_governs base rows paths)
  where
    by_row : (o : Option Row) → option_map (λ (l : AclList). l.at) (first_list (lists_of base rows) paths) ≡ find (has_own_list rows) paths
        → option_map (λ (l : AclList). l.at) (or_else (list_from base path o) (first_list (lists_of base rows) paths)) ≡ cond (is_some o) (Some path) (find (has_own_list rows) paths)
    by_row None more = more
    by_row (Some row) more = refl

-- the rules of a list are those of the access list of its path
pub list_rules : (pod : Pod) (path : List ℕ) (l : AclList) → find (is_list_of path) (lists_of pod.base pod.rows) ≡ Some l → (l.at ≡ path) × (l.rules.list ≡ rules_at pod path)
list_rules pod path l h = by_row (row_at pod.rows (list_path path)) (sym (list_found pod.base pod.rows path) ∙ h)
  where
    by_row : (o : Option Row) → list_from pod.base path o ≡ Some l → (l.at ≡ path) × (l.rules.list ≡ rules_of_row pod.base o)
    by_row None e = absurd cc
    by_row (Some row) e = let same : acl_list path (rules_in pod.base row.content) ≡ l = cc in (sym (ap (λ (x : AclList). x.at) same), sym (ap (λ (x : AclList). x.rules.list) same))

pub first_rules : (pod : Pod) (paths : List (List ℕ)) (l : AclList) → first_list (lists_of pod.base pod.rows) paths ≡ Some l → l.rules.list ≡ rules_at pod l.at
first_rules pod [] l h = absurd cc
first_rules pod (path ∷ paths) l h = by_list (find (is_list_of path) (lists_of pod.base pod.rows)) refl h (first_rules pod paths l)
  where
    by_list : (o : Option AclList) → find (is_list_of path) (lists_of pod.base pod.rows) ≡ o → or_else o (first_list (lists_of pod.base pod.rows) paths) ≡ Some l
        → (first_list (lists_of pod.base pod.rows) paths ≡ Some l → l.rules.list ≡ rules_at pod l.at) → l.rules.list ≡ rules_at pod l.at
    by_list None e g more = more g
    by_list (Some m) e g more =
        let own = list_rules pod path l (e ∙ g) in
        own.1 ∙ ap (rules_at pod) (sym own.0)
