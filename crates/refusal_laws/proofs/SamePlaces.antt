-- What is decided by the paths of rows is the same where the paths are, and what is above a path is a container.
use Rattle.std.proofs.Common.{◌≡◌, ℕ, Bool, true, false, cond, not, ◌||◌, List, [], ◌∷◌, ◌++◌, map, filter, length, reverse, Option, Some, None, refl, sym, ap, ap₂, subst, ◌∙◌}
use Rattle.std.specs.Prelude.{bytes_eq, is_some}
use Rattle.std.specs.List.{AllByRecursion, find, list_any}
use Rattle.std.proofs.lemmas.List.{reverse-append}
use Rattle.pod_base.specs.declared.moment.Moment.{Moment}
use Rattle.pod_command.specs.declared.edit.Edit.{Edit}
use Rattle.pod_command.specs.declared.edit.Edit.TheVariants as edits
use Rattle.pod_command.specs.declared.row.Row.{Row}
use Rattle.pod_edits.specs.Edits.{creation_edits, deletion_edits, put_container, remove_if, touch_if}
use Rattle.pod_edits.specs.Places.{missing_of, nearest_of}
use Rattle.pod_path.specs.Hierarchy.{acl_of, is_container, meta_of, parent_of}
use Rattle.pod_rows.specs.Pod.{is_at, is_row, row_at}
use Rattle.pod_rows.specs.Tree.{ancestors, beginnings}
use Rattle.reply_laws.specs.Alike.{path_of}

-- ---- which paths are rows

some_of : (b : Bool) (row : Row) (o : Option Row) → is_some (cond b (Some row) o) ≡ (b || is_some o)
some_of true row o = refl
some_of false row o = refl

is_row_by : (rows : List Row) (path : List ℕ) → is_row rows path ≡ list_any (λ other. bytes_eq other path) (map path_of rows)
is_row_by [] path = refl
is_row_by (row ∷ rows) path = some_of (is_at path row) row (row_at rows path) ∙ ap (λ (b : Bool). is_at path row || b) (is_row_by rows path)

module _ (p q : List Row) (same : map path_of p ≡ map path_of q) where
  pub is_row_same : (path : List ℕ) → is_row p path ≡ is_row q path
  is_row_same path = is_row_by p path ∙ ap (λ (paths : List (List ℕ)). list_any (λ other. bytes_eq other path) paths) same ∙ sym (is_row_by q path)

  pub rows_same : is_row p ≡ is_row q
  rows_same = λ i path. is_row_same path i

  -- ---- the places of new rows

  pub nearest_same : (path : List ℕ) → nearest_of p path ≡ nearest_of q path
  unfolding nearest_of
  nearest_same path = ap (λ (f : List ℕ → Bool). find f (ancestors path)) rows_same

  pub missing_same : (path : List ℕ) → missing_of p path ≡ missing_of q path
  unfolding missing_of
  missing_same path = ap (λ (f : List ℕ → Bool). reverse (filter (λ above. not (f above)) (ancestors path))) rows_same

  pub creation_same : (row : Row) → creation_edits p row ≡ creation_edits q row
  unfolding creation_edits
  creation_same row =
      ap₂ (λ (m : List (List ℕ)) (n : Option (List ℕ)). map (put_container row.modified) m ++ (edits.Put row ∷ touch_if n row.modified)) (missing_same row.path) (nearest_same row.path)

  removal_same : (o : Option (List ℕ)) → remove_if p o ≡ remove_if q o
  removal_same None = refl
  removal_same (Some path) = ap (λ (b : Bool). cond b (edits.Remove path ∷ []) []) (is_row_same path)

  pub deletion_same : (path : List ℕ) (modified : Moment) → deletion_edits p path modified ≡ deletion_edits q path modified
  unfolding deletion_edits
  deletion_same path modified =
      ap₂ (λ (a b : List Edit). edits.Remove path ∷ (a ++ (b ++ touch_if (parent_of path) modified))) (removal_same (acl_of path)) (removal_same (meta_of path))

-- ---- what is above a path is a container

abbrev pub AreContainers : List (List ℕ) → Type 0
AreContainers paths = AllByRecursion (λ path. is_container path ≡ true) paths

all_kept : (test : List ℕ → Bool) (paths : List (List ℕ)) → AreContainers paths → AreContainers (filter test paths)
all_kept test [] h = tt
all_kept test (path ∷ paths) h = by_test (test path) (all_kept test paths h.1)
  where
    by_test : (b : Bool) → AreContainers (filter test paths) → AreContainers (cond b (path ∷ filter test paths) (filter test paths))
    by_test true k = (h.0, k)
    by_test false k = k

all_passed : (paths : List (List ℕ)) → AreContainers (filter is_container paths)
all_passed [] = tt
all_passed (path ∷ paths) = by_test (is_container path) refl (all_passed paths)
  where
    by_test : (b : Bool) → is_container path ≡ b → AreContainers (filter is_container paths) → AreContainers (cond b (path ∷ filter is_container paths) (filter is_container paths))
    by_test true e k = (e, k)
    by_test false e k = k

all_append : (xs ys : List (List ℕ)) → AreContainers xs → AreContainers ys → AreContainers (xs ++ ys)
all_append [] ys h k = k
all_append (x ∷ xs) ys h k = (h.0, all_append xs ys h.1 k)

all_reversed : (paths : List (List ℕ)) → AreContainers paths → AreContainers (reverse paths)
all_reversed [] h = tt
all_reversed (path ∷ paths) h =
    let split : reverse (path ∷ paths) ≡ reverse paths ++ path ∷ [] = reverse-append (path ∷ []) paths in
    subst AreContainers (sym split) (all_append (reverse paths) (path ∷ []) (all_reversed paths h.1) (h.0, tt))

pub missing_containers : (rows : List Row) (path : List ℕ) → AreContainers (missing_of rows path)
unfolding missing_of
missing_containers rows path =
    all_reversed (filter (λ above. not (is_row rows above)) (ancestors path)) (all_kept (λ above. not (is_row rows above)) (ancestors path) (all_passed (beginnings path (length path))))

found_container : (test : List ℕ → Bool) (paths : List (List ℕ)) (path : List ℕ) → AreContainers paths → find test paths ≡ Some path → is_container path ≡ true
found_container test [] path h e = absurd cc
found_container test (one ∷ paths) path h e = by_test (test one) e (λ k. found_container test paths path h.1 k)
  where
    by_test : (b : Bool) → cond b (Some one) (find test paths) ≡ Some path → (find test paths ≡ Some path → is_container path ≡ true) → is_container path ≡ true
    by_test true k more = let same : one ≡ path = cc in subst (λ (x : List ℕ). is_container x ≡ true) same h.0
    by_test false k more = more k

pub nearest_container : (rows : List Row) (path above : List ℕ) → nearest_of rows path ≡ Some above → is_container above ≡ true
unfolding nearest_of
nearest_container rows path above e = found_container (is_row rows) (ancestors path) above (all_passed (beginnings path (length path))) e
