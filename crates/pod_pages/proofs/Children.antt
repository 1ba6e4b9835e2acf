-- Children are directly below their container.
use Rattle.std.proofs.Common.{◌≡◌, ◌-◌, ℕ, Bool, true, false, not, cond, ◌&&◌, ◌||◌, List, [], ◌∷◌, ◌++◌, length, take, drop, Option, Some, None, refl, sym, ap, ◌∙◌, append_assoc}
use Rattle.std.specs.List.{list_all, list_any}
use Rattle.std.proofs.lemmas.List.{append-nil, drop_at}
use Rattle.iri_ref.specs.Characters.{is_slash, slash}
use Rattle.iri_ref.specs.Resolution.{up_to_last_slash}
use Rattle.pod_path.specs.Hierarchy.{is_container, is_root, parent_of, without_end}
use Rattle.row_pages.specs.Delimited.{first_part, is_one_part}
use Rattle.row_pages.proofs.Ordered.{itself}
use Rattle.pod_path.proofs.Names.{ends_is}

-- ---- what follows the last slash of a text

record LastPart (text : List ℕ) : Type 0 where
  last : List ℕ
  whole : text ≡ up_to_last_slash text ++ last
  lacks : list_all (λ c. not (is_slash c)) last ≡ true

none_pass : (text : List ℕ) → list_any is_slash text ≡ false → list_all (λ c. not (is_slash c)) text ≡ true
none_pass [] h = refl
none_pass (c ∷ cs) h = by_test (is_slash c) h (none_pass cs)
  where
    by_test : (b : Bool) → (b || list_any is_slash cs) ≡ false → (list_any is_slash cs ≡ false → list_all (λ c. not (is_slash c)) cs ≡ true) → (not b && list_all (λ c. not (is_slash c)) cs) ≡ true
    by_test true e next = absurd cc
    by_test false e next = next e

last_part : (text : List ℕ) → LastPart text
last_part [] = record { last = []; whole = refl; lacks = refl }
last_part (c ∷ cs) = by_test (list_any is_slash (c ∷ cs)) refl (last_part cs)
  where
    by_test : (b : Bool) → list_any is_slash (c ∷ cs) ≡ b → LastPart cs → LastPart (c ∷ cs)
    by_test true h more =
        let up : up_to_last_slash (c ∷ cs) ≡ c ∷ up_to_last_slash cs = ap (λ b. cond b (c ∷ up_to_last_slash cs) []) h in
        record { last = more.last; whole = ap (λ (t : List ℕ). c ∷ t) more.whole ∙ ap (λ (t : List ℕ). t ++ more.last) (sym up); lacks = more.lacks }
    by_test false h more =
        let up : up_to_last_slash (c ∷ cs) ≡ [] = ap (λ b. cond b (c ∷ up_to_last_slash cs) []) h in
        record { last = c ∷ cs; whole = ap (λ (t : List ℕ). t ++ c ∷ cs) (sym up); lacks = none_pass (c ∷ cs) h }

-- ---- a name alone, and with a slash, is one part

one_name : (name : List ℕ) → list_all (λ c. not (is_slash c)) name ≡ true → first_part name ≡ name
one_name [] h = refl
one_name (c ∷ cs) h = by_test (is_slash c) h (one_name cs)
  where
    by_test : (b : Bool) → (not b && list_all (λ c. not (is_slash c)) cs) ≡ true → (list_all (λ c. not (is_slash c)) cs ≡ true → first_part cs ≡ cs) → c ∷ cond b [] (first_part cs) ≡ c ∷ cs
    by_test true e next = absurd cc
    by_test false e next = ap (λ (t : List ℕ). c ∷ t) (next e)

one_container : (name : List ℕ) → list_all (λ c. not (is_slash c)) name ≡ true → first_part (name ++ slash ∷ []) ≡ name ++ slash ∷ []
one_container [] h = refl
one_container (c ∷ cs) h = by_test (is_slash c) h (one_container cs)
  where
    by_test : (b : Bool) → (not b && list_all (λ c. not (is_slash c)) cs) ≡ true → (list_all (λ c. not (is_slash c)) cs ≡ true → first_part (cs ++ slash ∷ []) ≡ cs ++ slash ∷ [])
        → c ∷ cond b [] (first_part (cs ++ slash ∷ [])) ≡ c ∷ (cs ++ slash ∷ [])
    by_test true e next = absurd cc
    by_test false e next = ap (λ (t : List ℕ). c ∷ t) (next e)

part_is : (text : List ℕ) → first_part text ≡ text → is_one_part text ≡ true
part_is text e = ap (λ (t : List ℕ). Rattle.std.specs.Prelude.bytes_eq t text) e ∙ itself text

rest_is : (path container rest : List ℕ) → path ≡ container ++ rest → drop (length container) path ≡ rest
rest_is path container rest e = ap (drop (length container)) e ∙ drop_at container rest (length container) refl

-- what follows the parent of a path is one part
pub one_child : (path container : List ℕ) → parent_of path ≡ Some container → is_one_part (drop (length container) path) ≡ true
one_child path container h = by_tests (is_root path) (is_container path) refl h
  where
    some_is : (x : List ℕ) → Some x ≡ Some container → x ≡ container
    some_is x e = cc

    by_tests : (a b : Bool) → is_container path ≡ b → cond a None (Some (up_to_last_slash (cond b (without_end 1 path) path))) ≡ Some container → is_one_part (drop (length container) path) ≡ true
    by_tests true b eb e = absurd cc
    by_tests false true eb e =
        let front = without_end 1 path in
        let last = last_part front in
        let above = some_is (up_to_last_slash front) e in
        let whole : path ≡ container ++ (last.last ++ slash ∷ []) = ends_is path (slash ∷ []) eb ∙ ap (λ (t : List ℕ). t ++ slash ∷ []) (last.whole ∙ ap (λ (t : List ℕ). t ++ last.last) above) ∙ append_assoc container last.last (slash ∷ []) in
        ap is_one_part (rest_is path container (last.last ++ slash ∷ []) whole) ∙ part_is (last.last ++ slash ∷ []) (one_container last.last last.lacks)
    by_tests false false eb e =
        let last = last_part path in
        let above = some_is (up_to_last_slash path) e in
        let whole : path ≡ container ++ last.last = last.whole ∙ ap (λ (t : List ℕ). t ++ last.last) above in
        ap is_one_part (rest_is path container last.last whole) ∙ part_is last.last (one_name last.last last.lacks)
