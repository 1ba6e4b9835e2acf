-- The access list that governs a path is a row, so it is the list of a path that is no auxiliary.
use Rattle.std.proofs.Common.{◌≡◌, ℕ, Bool, true, false, cond, List, [], ◌∷◌, Option, Some, None, Result, Ok, Err, refl, ap, subst}
use Rattle.std.specs.Prelude.{IsTrue, is_some, codes}
use Rattle.std.specs.List.{find, list_all}
use Rattle.std.proofs.lemmas.Bool.{and_parts, false≢true}
use Rattle.std.proofs.lemmas.Slice.Eq.{bytes_eq-Decides}
use Rattle.acl_rules.specs.Documents.{is_parse}
use Rattle.acl_rules.specs.declared.rule.How.{How}
use Rattle.acl_rules.specs.declared.rule.How.TheVariants.{Own, Inherited}
use Rattle.pod_path.specs.Hierarchy.{acl_of, subject_of}
use Rattle.pod_path.specs.Norm.{norm, IsPath}
use Rattle.pod_path.specs.declared.fault.PathFault.{PathFault}
use Rattle.pod_path.proofs.NormalPaths.{norm_parts, is_path}
use Rattle.pod_path.proofs.Names.{ends_append}
use Rattle.pod_path.proofs.Subjects.{acl_undone, acl_back}
use Rattle.pod_command.specs.declared.row.Row.{Row}
use Rattle.pod_rows.specs.Access.{Governs, governed, governs, inherited, effective_of, about, has_own_list, list_path}
use Rattle.pod_rows.specs.Pod.{Pod, is_at, row_at, is_row}
use Rattle.pod_rows.specs.Tree.{ancestors}
use Rattle.pod_rows.specs.WellFormed.{WellFormed, has_normal_path}

-- what is found passes the test
found : {A : Type 0} (p : A → Bool) (xs : List A) (x : A) → find p xs ≡ Some x → p x ≡ true
found p [] x h = absurd cc
found p (y ∷ ys) x h = by_test (found p ys x) (p y) refl h
  where
    by_test : (find p ys ≡ Some x → p x ≡ true) → (b : Bool) → p y ≡ b → cond b (Some y) (find p ys) ≡ Some x → p x ≡ true
    by_test more true e h = let same : y ≡ x = cc in subst (λ z. p z ≡ true) same e
    by_test more false e h = more h

parse_is : (r : Result (List ℕ) PathFault) (text : List ℕ) → is_parse r text ≡ true → r ≡ Ok text
parse_is (Ok path) text h = ap (λ (p : List ℕ). Ok p) ((bytes_eq-Decides path text).0 h)
parse_is (Err fault) text h = absurd (false≢true h)

-- a row at a path makes it normal
pub row_normal : (rows : List Row) (path : List ℕ) → IsTrue (list_all has_normal_path rows) → is_row rows path ≡ true → norm path ≡ Ok path
unfolding has_normal_path
row_normal [] path all h = absurd (false≢true h)
row_normal (r ∷ rows) path all h =
    let parts = and_parts (has_normal_path r) (list_all has_normal_path rows) all in
    by_test parts.0 (row_normal rows path parts.1) (is_at path r) refl h
  where
    by_test : has_normal_path r ≡ true → (is_row rows path ≡ true → norm path ≡ Ok path) → (b : Bool) → is_at path r ≡ b → is_some (cond b (Some r) (row_at rows path)) ≡ true → norm path ≡ Ok path
    by_test own more true e h = subst (λ (p : List ℕ). norm p ≡ Ok p) ((bytes_eq-Decides r.path path).0 e) (parse_is (norm r.path) r.path own)
    by_test own more false e h = more h

-- the list of what governs is a row
pub own_row : (rows : List Row) (path : List ℕ) (g : Governs) → governs rows path ≡ Some g → has_own_list rows g.at ≡ true
own_row rows path g h = by_test (has_own_list rows path) refl h
  where
    above : (o : Option (List ℕ)) → find (has_own_list rows) (ancestors path) ≡ o → inherited o ≡ Some g → has_own_list rows g.at ≡ true
    above None e h = absurd cc
    above (Some at) e h =
        let same : governed at Inherited ≡ g = cc in
        subst (λ (l : Governs). has_own_list rows l.at ≡ true) same (found (has_own_list rows) (ancestors path) at e)

    by_test : (b : Bool) → has_own_list rows path ≡ b → cond b (Some (governed path Own)) (inherited (find (has_own_list rows) (ancestors path))) ≡ Some g → has_own_list rows g.at ≡ true
    by_test true e h =
        let same : governed path Own ≡ g = cc in
        subst (λ (l : Governs). has_own_list rows l.at ≡ true) same e
    by_test false e h = above (find (has_own_list rows) (ancestors path)) refl h

pub list_is : (pod : Pod) (path : List ℕ) (g : Governs) → WellFormed pod → effective_of pod.rows path ≡ Some g → acl_of g.at ≡ Some (list_path g.at)
list_is pod path g w h =
    let row = own_row pod.rows (about path (subject_of path)) g h in
    let normal = row_normal pod.rows (list_path g.at) w.paths row in
    let is : IsPath (list_path g.at) = is_path (list_path g.at) (norm_parts (list_path g.at) (list_path g.at) normal) in
    acl_undone (list_path g.at) g.at is (ends_append g.at (codes ".acl")) (acl_back g.at)

-- what governs, in the words of a caller
pub governing : (pod : Pod) (path at : List ℕ) (how : How) → WellFormed pod → effective_of pod.rows path ≡ Some (governed at how) → acl_of at ≡ Some (list_path at)
governing pod path at how w h = list_is pod path (governed at how) w h
