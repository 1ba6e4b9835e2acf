-- The rows that rows need, and those that they exclude.
use Rattle.std.proofs.Common.{◌≡◌, ◌<◌, ◌+◌, length, take, get_or, Bool, true, false, not, ◌||◌, cond, ℕ, List, [], ◌∷◌, ◌++◌, Option, Some, None, Ok, refl, sym, ap, ◌∙◌, subst}
use Rattle.std.specs.Prelude.{IsTrue, is_some, bytes_eq}
use Rattle.std.specs.List.{Contains, list_all, before_first}
use Rattle.std.proofs.lemmas.Bool.{and_parts, and_from, false≢true}
use Rattle.std.proofs.lemmas.List.{take_more}
use Rattle.std.proofs.lemmas.Slice.Eq.{bytes_eq-Decides}
use Rattle.iri_ref.specs.Characters.{slash, is_question_mark}
use Rattle.iri_ref.specs.Resolution.{up_to_last_slash}
use Rattle.rdf_graph.proofs.Members.{contains_here, contains_there}
use Rattle.pod_path.specs.Hierarchy.{root, is_root, is_auxiliary, is_container, twin_of, without_end, without_last_slash}
use Rattle.pod_path.specs.Norm.{IsPath, norm, path_text_of}
use Rattle.pod_path.proofs.Names.{ends_append}
use Rattle.pod_path.proofs.NormalPaths.{limited, path_again}
use Rattle.pod_path.proofs.Twins.{twin_back}
use Rattle.pod_command.specs.Encodable.{AreInOrder}
use Rattle.pod_command.specs.declared.row.Row.{Row}
use Rattle.pod_rows.specs.Pod.{row_at, is_row, is_row_of}
use Rattle.pod_rows.specs.WellFormed.{has_normal_path, has_parent, lacks_twin}
use Rattle.pod_rows.specs.WellFormedTests.{is_empty, is_known, lacks_container_twin}
use Rattle.pod_rows.proofs.DefinitionLaws.{all_at, row_found}
use Rattle.pod_rows.proofs.Tests.{parse_is, same_test}

-- ---- parents

-- the parent of a row that has one is known
pub known_next : (rows : List Row) (row : Row) → has_parent rows row ≡ true → IsTrue (is_known rows (up_to_last_slash (without_last_slash row.path)))
unfolding has_parent
known_next rows row h = by_root (is_root row.path) refl h
  where
    either : (b : Bool) → is_row rows (up_to_last_slash (without_last_slash row.path)) ≡ true → (b || is_row rows (up_to_last_slash (without_last_slash row.path))) ≡ true
    either true h = refl
    either false h = h

    by_root : (b : Bool) → is_root row.path ≡ b → (b || is_row_of rows (cond b None (Some (up_to_last_slash (without_last_slash row.path))))) ≡ true → IsTrue (is_known rows (up_to_last_slash (without_last_slash row.path)))
    by_root true e h = ap (λ (p : List ℕ). is_known rows (up_to_last_slash (without_last_slash p))) ((bytes_eq-Decides row.path root).0 e)
    by_root false e h = either (is_empty (up_to_last_slash (without_last_slash row.path))) h

-- one more row
pub all_more : (p : Row → Bool) (rows : List Row) (i : ℕ) (row : Row) → i < length rows → row ≡ get_or rows i row → list_all p (take i rows) ≡ true → p row ≡ true → list_all p (take (i + 1) rows) ≡ true
all_more p rows i row lt e h k = ap (list_all p) (take_more rows i row lt) ∙ behind (take i rows) h
  where
    behind : (xs : List Row) → list_all p xs ≡ true → list_all p (xs ++ get_or rows i row ∷ []) ≡ true
    behind [] h = and_from (p (get_or rows i row)) true (ap p (sym e) ∙ k) refl
    behind (x ∷ xs) h = let parts = and_parts (p x) (list_all p xs) h in and_from (p x) (list_all p (xs ++ get_or rows i row ∷ [])) parts.0 (behind xs parts.1)

-- ---- twins

found_row : (rows : List Row) (path : List ℕ) → is_row rows path ≡ true → (q : Row) × (Contains rows q) × (q.path ≡ path)
found_row [] path h = absurd (false≢true h)
found_row (r ∷ rs) path h = by_test (bytes_eq r.path path) refl (found_row rs path) h
  where
    by_test : (b : Bool) → bytes_eq r.path path ≡ b → (is_row rs path ≡ true → (q : Row) × (Contains rs q) × (q.path ≡ path)) → is_some (cond b (Some r) (row_at rs path)) ≡ true
        → (q : Row) × (Contains (r ∷ rs) q) × (q.path ≡ path)
    by_test true e more h = (r, contains_here r rs, (bytes_eq-Decides r.path path).0 e)
    by_test false e more h = let m = more h in (m.0, contains_there r rs m.0 m.1, m.2)

all_from : (p : Row → Bool) (rows : List Row) → ((row : Row) → Contains rows row → p row ≡ true) → list_all p rows ≡ true
all_from p [] h = refl
all_from p (r ∷ rs) h = and_from (p r) (list_all p rs) (h r (contains_here r rs)) (all_from p rs (λ row c. h row (contains_there r rs row c)))

-- the twin of what is no container is one
twin_container : (t x : List ℕ) → is_container t ≡ false → twin_of t ≡ Some x → is_container x ≡ true
twin_container t x open_path e = by_tests (is_root t || is_auxiliary t) (is_container t) open_path e
  where
    by_tests : (a c : Bool) → c ≡ false → cond a None (cond c (Some (without_end 1 t)) (Some (t ++ slash ∷ []))) ≡ Some x → is_container x ≡ true
    by_tests true c f h = absurd cc
    by_tests false true f h = absurd (false≢true (sym f))
    by_tests false false f h =
        let same : t ++ slash ∷ [] ≡ x = cc in
        subst (λ (y : List ℕ). is_container y ≡ true) same (ends_append t (slash ∷ []))

is_normal : (p : List ℕ) → norm p ≡ Ok p → IsPath p
is_normal p e = path_again (before_first is_question_mark p) p (limited (path_text_of (before_first is_question_mark p)) p e).0

-- a row lacks a twin where containers do
lacks_any : (rows : List Row) (row : Row) → AreInOrder rows → list_all has_normal_path rows ≡ true → list_all (lacks_container_twin rows) rows ≡ true → Contains rows row → lacks_twin rows row ≡ true
unfolding lacks_twin has_normal_path
lacks_any rows row o normal closed c = by_kind (is_container row.path) refl (all_at (lacks_container_twin rows) rows row closed c)
  where
    by_row : (x : List ℕ) → is_container row.path ≡ false → twin_of row.path ≡ Some x → (b : Bool) → is_row rows x ≡ b → not b ≡ true
    by_row x open_path e false k = refl
    by_row x open_path e true k =
        let q = found_row rows x k in
        let back : twin_of x ≡ Some row.path = twin_back row.path x (is_normal row.path (parse_is (norm row.path) row.path (all_at has_normal_path rows row normal c))) e in
        let at_q : (not (is_container q.0.path) || not (is_row_of rows (twin_of q.0.path))) ≡ true = all_at (lacks_container_twin rows) rows q.0 closed q.1 in
        let at_x : (not (is_container x) || not (is_row_of rows (twin_of x))) ≡ true = subst (λ (p : List ℕ). (not (is_container p) || not (is_row_of rows (twin_of p))) ≡ true) q.2 at_q in
        let none : not (is_row rows row.path) ≡ true =
        sym (ap (λ (b : Bool). not b || not (is_row_of rows (twin_of x))) (twin_container row.path x open_path e) ∙ ap (λ (t : Option (List ℕ)). not (is_row_of rows t)) back) ∙ at_x in
        absurd (false≢true (sym (ap (λ (t : Option Row). not (is_some t)) (row_found rows row o c)) ∙ none))

    by_twin : is_container row.path ≡ false → (t : Option (List ℕ)) → twin_of row.path ≡ t → not (is_row_of rows t) ≡ true
    by_twin open_path None e = refl
    by_twin open_path (Some x) e = by_row x open_path e (is_row rows x) refl

    by_kind : (b : Bool) → is_container row.path ≡ b → (not b || not (is_row_of rows (twin_of row.path))) ≡ true → not (is_row_of rows (twin_of row.path)) ≡ true
    by_kind true e h = h
    by_kind false e h = by_twin e (twin_of row.path) refl

-- where containers lack twins, all rows do
pub container_twins : (rows : List Row) → AreInOrder rows → IsTrue (list_all has_normal_path rows) → list_all (lacks_container_twin rows) rows ≡ list_all (lacks_twin rows) rows
container_twins rows o normal =
    same_test (list_all (lacks_container_twin rows) rows) (list_all (lacks_twin rows) rows)
    (λ h. all_from (lacks_twin rows) rows (λ row c. lacks_any rows row o normal h c))
    (λ h. all_from (lacks_container_twin rows) rows (λ row c. or_right (not (is_container row.path)) (lacks_twin rows row) (all_at (lacks_twin rows) rows row h c)))
  where
    or_right : (a b : Bool) → b ≡ true → (a || b) ≡ true
    or_right true b h = refl
    or_right false b h = h
