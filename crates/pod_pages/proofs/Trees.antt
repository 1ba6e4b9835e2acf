-- What well-formed pods have that matters to the lists of their rows.
use Rattle.std.proofs.Common.{◌≡◌, ℕ, Bool, true, false, cond, List, [], ◌∷◌, Some, sym, ap, ◌∙◌, subst}
use Rattle.std.specs.List.{list_all}
use Rattle.std.proofs.lemmas.Bool.{and_parts}
use Rattle.pod_rows.proofs.Tests.{parse_is}
use Rattle.pod_path.specs.Hierarchy.{subject_of}
use Rattle.pod_path.specs.Norm.{IsPath, norm}
use Rattle.pod_path.proofs.NormalPaths.{is_path, norm_parts}
use Rattle.pod_path.proofs.Subjects.{acl_back}
use Rattle.pod_command.specs.declared.row.Row.{Row}
use Rattle.pod_rows.specs.Access.{list_path}
use Rattle.pod_rows.specs.Pod.{Pod, is_at, row_at, is_row}
use Rattle.pod_rows.specs.WellFormed.{WellFormed, has_normal_path, has_subject, is_subject_row}
use Rattle.pod_rows.proofs.Governed.{root_list}
use Rattle.access_index.proofs.Governance.{no_subject, subject_plain}
use Rattle.pod_pages.specs.Numbering.{IsTree}
use Rattle.pod_pages.proofs.Found.{found_path}
use Rattle.pod_pages.proofs.Resolution.{some_is}

path_of : Row → List ℕ
path_of row = row.path

-- a test that holds of all rows holds of what is found
pub all_found : (p : Row → Bool) (rows : List Row) (q : List ℕ) (r : Row) → list_all p rows ≡ true → row_at rows q ≡ Some r → p r ≡ true
all_found p [] q r h e = absurd cc
all_found p (x ∷ xs) q r h e = by_test (is_at q x) e (all_found p xs q r)
  where
    parts : (p x ≡ true) × (list_all p xs ≡ true)
    parts = and_parts (p x) (list_all p xs) h

    by_test : (b : Bool) → cond b (Some x) (row_at xs q) ≡ Some r → (list_all p xs ≡ true → row_at xs q ≡ Some r → p r ≡ true) → p r ≡ true
    by_test true k more = let same : x ≡ r = cc in subst (λ (y : Row). p y ≡ true) same parts.0
    by_test false k more = more parts.1 k

pub row_path : (rows : List Row) (q : List ℕ) (r : Row) → row_at rows q ≡ Some r → r.path ≡ q
row_path rows q r e = found_path (λ (x : Row). x.path) rows q r e

normal_path : (r : Row) → has_normal_path r ≡ true → IsPath r.path
unfolding has_normal_path
normal_path r h = is_path r.path (norm_parts r.path r.path (parse_is (norm r.path) r.path h))

subject_row : (rows : List Row) (r : Row) (s : List ℕ) → has_subject rows r ≡ true → subject_of r.path ≡ Some s → is_row rows s ≡ true
unfolding has_subject
subject_row rows r s h e = ap (is_subject_row rows) (sym e) ∙ h

pub tree : (pod : Pod) → WellFormed pod → IsTree pod.rows
tree pod w = record {
  paths = λ p h. path_at p h;
  subjects = λ s h.
      let r = some_is (row_at pod.rows (list_path s)) h in
      subject_row pod.rows r.0 s (all_found (has_subject pod.rows) pod.rows (list_path s) r.0 w.subjects r.1) (ap subject_of (row_path pod.rows (list_path s) r.0 r.1) ∙ acl_back s);
  plain = λ s h. no_subject s (subject_plain (list_path s) s (path_at (list_path s) h) (acl_back s));
  rooted = root_list pod w;
}
  where
    path_at : (p : List ℕ) → is_row pod.rows p ≡ true → IsPath p
    path_at p h =
        let r = some_is (row_at pod.rows p) h in
        subst IsPath (row_path pod.rows p r.0 r.1) (normal_path r.0 (all_found has_normal_path pod.rows p r.0 w.paths r.1))
