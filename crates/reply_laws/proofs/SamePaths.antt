-- What is decided by the paths of rows is the same where the paths are.
use Rattle.std.proofs.Common.{◌≡◌, ℕ, suc, Bool, true, false, cond, not, ◌||◌, ◌&&◌, ◌+◌, List, [], ◌∷◌, ◌++◌, length, map, filter, reverse, Option, Some, None, refl, sym, ap, ap₂, ◌∙◌}
use Rattle.std.specs.Prelude.{bytes_eq, is_some, nat_lt}
use Rattle.std.specs.List.{find, list_any}
use Rattle.std.specs.Option.{option_map}
use Rattle.acl_rules.specs.declared.rule.How.TheVariants.{Own}
use Rattle.pod_base.specs.declared.moment.Moment.{Moment}
use Rattle.pod_command.specs.declared.edit.Edit.{Edit}
use Rattle.pod_command.specs.declared.edit.Edit.TheVariants as edits
use Rattle.pod_command.specs.declared.row.Row.{Row}
use Rattle.pod_edits.specs.Edits.{creation_edits, deletion_edits, put_container, remove_if, touch_if}
use Rattle.pod_edits.specs.Places.{missing_of, nearest_of}
use Rattle.pod_edits.specs.Refusals.{added_rows, exceeds_rows, has_children, has_some, lacks_subject, meets_twin}
use Rattle.pod_path.specs.Hierarchy.{acl_of, is_auxiliary, meta_of, parent_of, subject_of, twin_of}
use Rattle.pod_rows.specs.Access.{about, effective_of, governed, inherited, list_path}
use Rattle.pod_rows.specs.Pod.{is_at, is_row, is_row_of, row_at}
use Rattle.pod_rows.specs.Tree.{ancestors, children_of, is_child_of, is_the_path}
use Rattle.pod_rows.specs.WellFormed.{is_subject_row}
use Rattle.pod_rows.specs.declared.limits.TheConstants.{ROWS_LIMIT}
use Rattle.reply_laws.specs.Alike.{kind_of, path_of}

-- ---- rows by their paths

abbrev pub has_path : List (List ℕ) → List ℕ → Bool
has_path paths path = list_any (λ other. bytes_eq other path) paths

some_of : (b : Bool) (row : Row) (o : Option Row) → is_some (cond b (Some row) o) ≡ (b || is_some o)
some_of true row o = refl
some_of false row o = refl

is_row_by : (rows : List Row) (path : List ℕ) → is_row rows path ≡ has_path (map path_of rows) path
is_row_by [] path = refl
is_row_by (row ∷ rows) path =
    some_of (is_at path row) row (row_at rows path) ∙ ap (λ (b : Bool). is_at path row || b) (is_row_by rows path)

pub same_is_row_at : (p q : List Row) → map path_of p ≡ map path_of q → (path : List ℕ) → is_row p path ≡ is_row q path
same_is_row_at p q e path = is_row_by p path ∙ ap (λ (ps : List (List ℕ)). has_path ps path) e ∙ sym (is_row_by q path)

pub same_is_row : (p q : List Row) → map path_of p ≡ map path_of q → is_row p ≡ is_row q
same_is_row p q e = λ i path. same_is_row_at p q e path i

same_row_of_at : (p q : List Row) → map path_of p ≡ map path_of q → (o : Option (List ℕ)) → is_row_of p o ≡ is_row_of q o
same_row_of_at p q e None = refl
same_row_of_at p q e (Some path) = same_is_row_at p q e path

same_row_of : (p q : List Row) → map path_of p ≡ map path_of q → is_row_of p ≡ is_row_of q
same_row_of p q e = λ i o. same_row_of_at p q e o i

-- ---- where a path stands in the tree

pub same_nearest : (p q : List Row) → map path_of p ≡ map path_of q → (path : List ℕ) → nearest_of p path ≡ nearest_of q path
unfolding nearest_of
same_nearest p q e path = ap (λ (f : List ℕ → Bool). find f (ancestors path)) (same_is_row p q e)

pub same_missing : (p q : List Row) → map path_of p ≡ map path_of q → (path : List ℕ) → missing_of p path ≡ missing_of q path
unfolding missing_of
same_missing p q e path = ap (λ (f : List ℕ → Bool). reverse (filter (λ above. not (f above)) (ancestors path))) (same_is_row p q e)

pub same_twin : (p q : List Row) → map path_of p ≡ map path_of q → (path : List ℕ) → meets_twin p path ≡ meets_twin q path
unfolding meets_twin
same_twin p q e path = ap (λ (f : Option (List ℕ) → Bool). list_any (λ x. f (twin_of x)) (path ∷ ancestors path)) (same_row_of p q e)

same_subject_row : (p q : List Row) → map path_of p ≡ map path_of q → (o : Option (List ℕ)) → is_subject_row p o ≡ is_subject_row q o
same_subject_row p q e None = refl
same_subject_row p q e (Some subject) = same_is_row_at p q e subject

pub same_subject : (p q : List Row) → map path_of p ≡ map path_of q → (path : List ℕ) → lacks_subject p path ≡ lacks_subject q path
unfolding lacks_subject
same_subject p q e path = ap not (same_subject_row p q e (subject_of path))

-- ---- children

is_child : List ℕ → List ℕ → Bool
is_child container path = not (is_auxiliary path) && is_the_path container (parent_of path)

map_kept : (b : Bool) (row : Row) (rows : List Row) → map path_of (cond b (row ∷ rows) rows) ≡ cond b (row.path ∷ map path_of rows) (map path_of rows)
map_kept true row rows = refl
map_kept false row rows = refl

children_by : (rows : List Row) (container : List ℕ) → children_of rows container ≡ filter (λ path. not (is_auxiliary path) && is_the_path container (parent_of path)) (map path_of rows)
children_by [] container = refl
children_by (row ∷ rows) container =
    map_kept (is_child_of container row) row (filter (is_child_of container) rows)
    ∙ ap (λ (ps : List (List ℕ)). cond (is_child_of container row) (row.path ∷ ps) ps) (children_by rows container)

pub same_children : (p q : List Row) → map path_of p ≡ map path_of q → (container : List ℕ) → children_of p container ≡ children_of q container
same_children p q e container =
    children_by p container
    ∙ ap (λ (ps : List (List ℕ)). filter (λ path. not (is_auxiliary path) && is_the_path container (parent_of path)) ps) e
    ∙ sym (children_by q container)

pub same_has_children : (p q : List Row) → map path_of p ≡ map path_of q → (path : List ℕ) → has_children p path ≡ has_children q path
unfolding has_children
same_has_children p q e path = ap has_some (same_children p q e path)

-- ---- numbers

length_paths : (rows : List Row) → length (map path_of rows) ≡ length rows
length_paths [] = refl
length_paths (row ∷ rows) = ap suc (length_paths rows)

same_length : (p q : List Row) → map path_of p ≡ map path_of q → length p ≡ length q
same_length p q e = sym (length_paths p) ∙ ap length e ∙ length_paths q

pub same_exceeds : (p q : List Row) → map path_of p ≡ map path_of q → (added : ℕ) → exceeds_rows p added ≡ exceeds_rows q added
unfolding exceeds_rows
same_exceeds p q e added = ap (λ (n : ℕ). nat_lt ROWS_LIMIT (n + added)) (same_length p q e)

pub same_added : (p q : List Row) → map path_of p ≡ map path_of q → (path : List ℕ) → added_rows p path ≡ added_rows q path
unfolding added_rows
same_added p q e path = ap (λ (m : List (List ℕ)). cond (is_auxiliary path) 1 (suc (length m))) (same_missing p q e path)

-- ---- edits

pub same_creation : (p q : List Row) → map path_of p ≡ map path_of q → (row : Row) → creation_edits p row ≡ creation_edits q row
unfolding creation_edits
same_creation p q e row =
    ap₂ (λ (m : List (List ℕ)) (n : Option (List ℕ)). map (put_container row.modified) m ++ (edits.Put row ∷ touch_if n row.modified))
    (same_missing p q e row.path) (same_nearest p q e row.path)

same_removal : (p q : List Row) → map path_of p ≡ map path_of q → (o : Option (List ℕ)) → remove_if p o ≡ remove_if q o
same_removal p q e None = refl
same_removal p q e (Some path) = ap (λ (b : Bool). cond b (edits.Remove path ∷ []) []) (same_is_row_at p q e path)

pub same_deletion : (p q : List Row) → map path_of p ≡ map path_of q → (path : List ℕ) (modified : Moment) → deletion_edits p path modified ≡ deletion_edits q path modified
unfolding deletion_edits
same_deletion p q e path modified =
    ap₂ (λ (a b : List Edit). edits.Remove path ∷ (a ++ (b ++ touch_if (parent_of path) modified)))
    (same_removal p q e (acl_of path)) (same_removal p q e (meta_of path))

-- ---- access lists in force

pub same_effective : (p q : List Row) → map path_of p ≡ map path_of q → (path : List ℕ) → effective_of p path ≡ effective_of q path
same_effective p q e path =
    ap (λ (f : List ℕ → Bool). cond (f (list_path (about path (subject_of path)))) (Some (governed (about path (subject_of path)) Own))
    (inherited (find (λ x. f (list_path x)) (ancestors (about path (subject_of path))))))
    (same_is_row p q e)

-- ---- kinds

pub same_kind : (p q : List Row) → map path_of p ≡ map path_of q → map kind_of p ≡ map kind_of q → (path : List ℕ)
    → option_map kind_of (row_at p path) ≡ option_map kind_of (row_at q path)
same_kind [] [] e k path = refl
same_kind [] (s ∷ q) e k path = absurd cc
same_kind (r ∷ p) [] e k path = absurd cc
same_kind (r ∷ p) (s ∷ q) e k path =
    let paths : map path_of p ≡ map path_of q = cc in
    let kinds : map kind_of p ≡ map kind_of q = cc in
    let path_is : r.path ≡ s.path = cc in
    let kind_is : r.kind ≡ s.kind = cc in
    map_cond (is_at path r) r (row_at p path)
    ∙ (λ i. cond (bytes_eq (path_is i) path) (Some (kind_is i)) (same_kind p q paths kinds path i))
    ∙ sym (map_cond (is_at path s) s (row_at q path))
  where
    map_cond : (b : Bool) (row : Row) (o : Option Row) → option_map kind_of (cond b (Some row) o) ≡ cond b (Some row.kind) (option_map kind_of o)
    map_cond true row o = refl
    map_cond false row o = refl
