-- In a well-formed pod every path is governed by the list that is found.
use Rattle.std.proofs.Common.{◌≡◌, ◌<◌, ℕ, zero, suc, Bool, true, false, cond, List, [], ◌∷◌, length, take, filter, Option, Some, None, refl, sym, ap, ◌∙◌, subst, arith, option_map}
use Rattle.std.specs.Prelude.{codes, is_some, IsSome}
use Rattle.std.specs.List.{find, list_all}
use Rattle.std.proofs.lemmas.Bool.{and_parts, false≢true, eqb-true}
use Rattle.iri_ref.specs.Characters.{slash, is_slash}
use Rattle.acl_rules.specs.declared.rule.How.TheVariants.{Own}
use Rattle.pod_path.specs.Characters.{is_path_character}
use Rattle.pod_path.specs.Hierarchy.{root, is_container, subject_of}
use Rattle.pod_path.specs.Norm.{IsPath, has_path_characters}
use Rattle.pod_path.proofs.NormalPaths.{parts_of}
use Rattle.pod_path.proofs.Subjects.{subject_path}
use Rattle.pod_command.specs.declared.row.Row.{Row}
use Rattle.pod_rows.specs.Access.{list_path, has_own_list, Governs, governed, inherited, governs, effective_of, about, rules_at}
use Rattle.pod_rows.specs.AclLists.{lists_of, is_list_of, first_list, KeepsLists}
use Rattle.pod_rows.specs.Pod.{Pod, row_at}
use Rattle.pod_rows.specs.State.{NumberedPod}
use Rattle.pod_rows.specs.Tree.{ancestors, beginnings}
use Rattle.pod_rows.specs.WellFormed.{WellFormed, has_first_rows, is_container_row, guards_row}
use Rattle.pod_rows.specs.declared.acl_list.AclList.{AclList}
use Rattle.pod_rows.proofs.Lookups.{list_from, list_found, list_rules, first_governs, first_rules}

-- ---- the root has a list

is_some_guard : (pod : Pod) (o : Option Row) → guards_row pod o ≡ true → is_some o ≡ true
is_some_guard pod None h = absurd (false≢true h)
is_some_guard pod (Some row) h = refl

pub root_list : (pod : Pod) → WellFormed pod → has_own_list pod.rows root ≡ true
unfolding has_first_rows
root_list pod w =
    is_some_guard pod (row_at pod.rows (codes "/.acl"))
    (and_parts (is_container_row (row_at pod.rows root)) (guards_row pod (row_at pod.rows (codes "/.acl"))) w.first_rows).1

-- a path begins with a slash
starts_slash : (t : List ℕ) → has_path_characters t ≡ true → (rest : List ℕ) × (t ≡ slash ∷ rest)
starts_slash [] h = absurd (false≢true h)
starts_slash (c ∷ cs) h = (cs, ap (λ (d : ℕ). d ∷ cs) (eqb-true c slash ((and_parts (is_slash c) (list_all is_path_character cs) h).0)))

some_found : (p q : List ℕ → Bool) (x : List ℕ) (xs : List (List ℕ)) → is_some (find p (filter q xs)) ≡ true → is_some (find p (filter q (x ∷ xs))) ≡ true
some_found p q x xs h = by_tests (q x) (p x)
  where
    by_tests : (a b : Bool) → is_some (find p (cond a (x ∷ filter q xs) (filter q xs))) ≡ true
    by_tests false b = h
    by_tests true b = first (p x)
      where
        first : (c : Bool) → is_some (cond c (Some x) (find p (filter q xs))) ≡ true
        first true = refl
        first false = h

-- the root is an ancestor of every other path
root_found : (p : List ℕ → Bool) → p root ≡ true → (rest : List ℕ) (n : ℕ) → 1 < n → is_some (find p (filter is_container (beginnings (slash ∷ rest) n))) ≡ true
root_found p r rest zero h = absurd (omega (arith, h))
root_found p r rest (suc zero) h = absurd (omega (arith, h))
root_found p r rest (suc (suc zero)) h = ap (λ (b : Bool). is_some (cond b (Some root) (find p (filter is_container (beginnings (slash ∷ rest) 1))))) r
root_found p r rest (suc (suc (suc m))) h =
    some_found p is_container (take (suc (suc m)) (slash ∷ rest)) (beginnings (slash ∷ rest) (suc (suc m))) (root_found p r rest (suc (suc m)) (omega arith))

inherited_some : (o : Option (List ℕ)) → is_some o ≡ true → IsSome (inherited o)
inherited_some None h = absurd (false≢true h)
inherited_some (Some at) h = refl

governs_slash : (pod : Pod) → WellFormed pod → (rest : List ℕ) → IsSome (governs pod.rows (slash ∷ rest))
governs_slash pod w [] = subst (λ (b : Bool). IsSome (cond b (Some (governed root Own)) (inherited (find (has_own_list pod.rows) (ancestors root))))) (sym (root_list pod w)) refl
governs_slash pod w (c ∷ cs) = by_own (has_own_list pod.rows (slash ∷ c ∷ cs))
  where
    by_own : (b : Bool) → IsSome (cond b (Some (governed (slash ∷ c ∷ cs) Own)) (inherited (find (has_own_list pod.rows) (ancestors (slash ∷ c ∷ cs)))))
    by_own true = refl
    by_own false = inherited_some (find (has_own_list pod.rows) (ancestors (slash ∷ c ∷ cs))) (root_found (has_own_list pod.rows) (root_list pod w) (c ∷ cs) (length (slash ∷ c ∷ cs)) (omega arith))

governs_path : (pod : Pod) → WellFormed pod → (t : List ℕ) → IsPath t → IsSome (governs pod.rows t)
governs_path pod w t h =
    let s = starts_slash t (parts_of t h).characters in
    subst (λ (x : List ℕ). IsSome (governs pod.rows x)) (sym s.1) (governs_slash pod w s.0)

pub always_governed : (pod : Pod) (path : List ℕ) → WellFormed pod → IsPath path → IsSome (effective_of pod.rows path)
always_governed pod path w h = by_subject (subject_of path) refl
  where
    by_subject : (o : Option (List ℕ)) → subject_of path ≡ o → IsSome (governs pod.rows (about path o))
    by_subject None e = governs_path pod w path h
    by_subject (Some subject) e = governs_path pod w subject (subject_path path subject h e)

-- ---- what is found among the lists

own_from : (base : List ℕ) (path : List ℕ) (o : Option Row) (l : AclList) → list_from base path o ≡ Some l → is_some o ≡ true
own_from base path None l h = absurd cc
own_from base path (Some row) l h = refl

no_own_from : (base : List ℕ) (path : List ℕ) (o : Option Row) → list_from base path o ≡ None → is_some o ≡ false
no_own_from base path None h = refl
no_own_from base path (Some row) h = absurd cc

pub own_governs : (pod : Pod) (path : List ℕ) (l : AclList) → find (is_list_of (about path (subject_of path))) (lists_of pod.base pod.rows) ≡ Some l
    → effective_of pod.rows path ≡ Some (governed l.at Own)
own_governs pod path l h =
    let text = about path (subject_of path) in
    let own : has_own_list pod.rows text ≡ true = own_from pod.base text (row_at pod.rows (list_path text)) l (sym (list_found pod.base pod.rows text) ∙ h) in
    ap (λ (b : Bool). cond b (Some (governed text Own)) (inherited (find (has_own_list pod.rows) (ancestors text)))) own
    ∙ ap (λ (x : List ℕ). Some (governed x Own)) (sym ((list_rules pod text l h).0))

pub own_rules : (pod : Pod) (text : List ℕ) (l : AclList) → find (is_list_of text) (lists_of pod.base pod.rows) ≡ Some l → l.rules.list ≡ rules_at pod l.at
own_rules pod text l h = (list_rules pod text l h).1 ∙ ap (rules_at pod) (sym ((list_rules pod text l h).0))

pub above_governs : (pod : Pod) (path : List ℕ) (o : Option AclList) → find (is_list_of (about path (subject_of path))) (lists_of pod.base pod.rows) ≡ None
    → first_list (lists_of pod.base pod.rows) (ancestors (about path (subject_of path))) ≡ o
    → effective_of pod.rows path ≡ inherited (option_map (λ (l : AclList). l.at) o)
above_governs pod path o h e =
    let text = about path (subject_of path) in
    let own : has_own_list pod.rows text ≡ false = no_own_from pod.base text (row_at pod.rows (list_path text)) (sym (list_found pod.base pod.rows text) ∙ h) in
    ap (λ (b : Bool). cond b (Some (governed text Own)) (inherited (find (has_own_list pod.rows) (ancestors text)))) own
    ∙ ap inherited (sym (first_governs pod.base pod.rows (ancestors text)) ∙ ap (option_map (λ (l : AclList). l.at)) e)

-- ---- the same of a state in memory

pub kept_own : (state : NumberedPod) (kept lists : List AclList) (path text : List ℕ) (l : AclList) → KeepsLists state kept → lists ≡ kept → text ≡ about path (subject_of path)
    → find (is_list_of text) lists ≡ Some l → (effective_of state.pod.rows path ≡ Some (governed l.at Own)) × (l.rules.list ≡ rules_at state.pod l.at)
kept_own state kept lists path text l k same is found =
    let here : find (is_list_of (about path (subject_of path))) (lists_of state.pod.base state.pod.rows) ≡ Some l =
    ap (λ (t : List ℕ). find (is_list_of t) (lists_of state.pod.base state.pod.rows)) (sym is) ∙ ap (find (is_list_of text)) (sym (same ∙ k.lists)) ∙ found in
    (own_governs state.pod path l here, own_rules state.pod (about path (subject_of path)) l here)

pub kept_above : (state : NumberedPod) (kept lists : List AclList) (path text : List ℕ) (o : Option AclList) → KeepsLists state kept → lists ≡ kept → text ≡ about path (subject_of path)
    → find (is_list_of text) lists ≡ None → first_list lists (ancestors text) ≡ o → effective_of state.pod.rows path ≡ inherited (option_map (λ (l : AclList). l.at) o)
kept_above state kept lists path text o k same is none found =
    above_governs state.pod path o
    (ap (λ (t : List ℕ). find (is_list_of t) (lists_of state.pod.base state.pod.rows)) (sym is) ∙ ap (find (is_list_of text)) (sym (same ∙ k.lists)) ∙ none)
    (ap (λ (t : List ℕ). first_list (lists_of state.pod.base state.pod.rows) (ancestors t)) (sym is) ∙ ap (λ (ls : List AclList). first_list ls (ancestors text)) (sym (same ∙ k.lists)) ∙ found)

pub kept_rules : (state : NumberedPod) (kept lists : List AclList) (text : List ℕ) (l : AclList) → KeepsLists state kept → lists ≡ kept
    → first_list lists (ancestors text) ≡ Some l → l.rules.list ≡ rules_at state.pod l.at
kept_rules state kept lists text l k same found =
    first_rules state.pod (ancestors text) l (ap (λ (ls : List AclList). first_list ls (ancestors text)) (sym (same ∙ k.lists)) ∙ found)

pub never_none : (o : Option Governs) → IsSome o → o ≡ None → ⊥
never_none None s e = absurd cc
never_none (Some g) s e = absurd cc
