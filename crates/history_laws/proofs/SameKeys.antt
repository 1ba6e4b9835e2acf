-- The paths and kinds of rows after edits follow from those before, whatever the rows hold.
use Rattle.std.proofs.Common.{◌≡◌, ℕ, Bool, true, false, cond, not, List, [], ◌∷◌, ◌++◌, map, filter, Option, Some, None, refl, sym, ap, ap₂, ◌∙◌}
use Rattle.std.specs.Prelude.{bytes_eq, find}
use Rattle.std.specs.Option.{option_map}
use Rattle.pod_base.specs.declared.moment.Moment.{Moment}
use Rattle.pod_command.specs.declared.edit.Edit.{Edit}
use Rattle.pod_command.specs.declared.edit.Edit.TheVariants as edits
use Rattle.pod_command.specs.declared.row.Content.{Content}
use Rattle.pod_command.specs.declared.row.Content.TheVariants as contents
use Rattle.pod_command.specs.declared.row.Kind.{Kind}
use Rattle.pod_command.specs.declared.row.Row.{Row}
use Rattle.pod_rows.specs.Apply.{after_edits, change_found, changed_row, edited, is_before, put_found, put_row, remove_found, remove_row, touch_found, with_content, with_moment}
use Rattle.pod_rows.specs.GraphSets.{changed_graph, has_triples}
use Rattle.pod_rows.specs.Pod.{row_at}
use Rattle.rdf_graph.specs.declared.change.Change.{Change}
use Rattle.reply_laws.specs.Alike.{kind_of, path_of}

-- ---- the key of a row: its path and its kind

abbrev pub Key : Type 0
Key = List ℕ × Kind

abbrev pub key_of : Row → Key
key_of row = (row.path, row.kind)

pub keys_from : (p q : List Row) → map path_of p ≡ map path_of q → map kind_of p ≡ map kind_of q → map key_of p ≡ map key_of q
keys_from [] [] e k = refl
keys_from [] (s ∷ q) e k = absurd cc
keys_from (r ∷ p) [] e k = absurd cc
keys_from (r ∷ p) (s ∷ q) e k =
    let paths : map path_of p ≡ map path_of q = cc in
    let kinds : map kind_of p ≡ map kind_of q = cc in
    let path_is : r.path ≡ s.path = cc in
    let kind_is : r.kind ≡ s.kind = cc in
    λ i. (path_is i, kind_is i) ∷ keys_from p q paths kinds i

paths_of : (rows : List Row) → map (λ (k : Key). k.0) (map key_of rows) ≡ map path_of rows
paths_of [] = refl
paths_of (row ∷ rows) = ap (λ (ps : List (List ℕ)). row.path ∷ ps) (paths_of rows)

kinds_of : (rows : List Row) → map (λ (k : Key). k.1) (map key_of rows) ≡ map kind_of rows
kinds_of [] = refl
kinds_of (row ∷ rows) = ap (λ (ks : List Kind). row.kind ∷ ks) (kinds_of rows)

pub paths_from : (p q : List Row) → map key_of p ≡ map key_of q → map path_of p ≡ map path_of q
paths_from p q e = sym (paths_of p) ∙ ap (map (λ (k : Key). k.0)) e ∙ paths_of q

pub kinds_from : (p q : List Row) → map key_of p ≡ map key_of q → map kind_of p ≡ map kind_of q
kinds_from p q e = sym (kinds_of p) ∙ ap (map (λ (k : Key). k.1)) e ∙ kinds_of q

-- ---- what an edit makes of keys

abbrev key_at : List Key → List ℕ → Option Key
key_at keys path = find (λ (k : Key). bytes_eq k.0 path) keys

abbrev put_key : List Key → Key → List Key
put_key keys key = filter (λ (k : Key). is_before k.0 key.0) keys ++ key ∷ filter (λ (k : Key). is_before key.0 k.0) keys

abbrev remove_key : List Key → List ℕ → List Key
remove_key keys path = filter (λ (k : Key). not (bytes_eq k.0 path)) keys

abbrev put_again : List Key → Option Key → List Key
put_again keys None = keys
put_again keys (Some key) = put_key keys key

abbrev remove_again : List Key → Option Key → List Key
remove_again keys None = keys
remove_again keys (Some key) = remove_key keys key.0

abbrev keys_edited : List Key → Edit → List Key
keys_edited keys (edits.Put row) = put_key keys (key_of row)
keys_edited keys (edits.Change path change modified) = put_again keys (key_at keys path)
keys_edited keys (edits.Touch path modified) = put_again keys (key_at keys path)
keys_edited keys (edits.Remove path) = remove_again keys (key_at keys path)

abbrev keys_after : List Key → List Edit → List Key
keys_after keys [] = keys
keys_after keys (edit ∷ more) = keys_after (keys_edited keys edit) more

-- ---- rows that are found, put and removed

key_found : (rows : List Row) (path : List ℕ) → key_at (map key_of rows) path ≡ option_map key_of (row_at rows path)
key_found [] path = refl
key_found (row ∷ rows) path = by_test (bytes_eq row.path path) (key_found rows path)
  where
    by_test : (b : Bool) → key_at (map key_of rows) path ≡ option_map key_of (row_at rows path)
        → cond b (Some (key_of row)) (key_at (map key_of rows) path) ≡ option_map key_of (cond b (Some row) (row_at rows path))
    by_test true more = refl
    by_test false more = more

kept : (test : List ℕ → Bool) (rows : List Row) → map key_of (filter (λ row. test row.path) rows) ≡ filter (λ (k : Key). test k.0) (map key_of rows)
kept test [] = refl
kept test (row ∷ rows) =
    by_test (test row.path) ∙ ap (λ (ks : List Key). cond (test row.path) (key_of row ∷ ks) ks) (kept test rows)
  where
    by_test : (b : Bool) → map key_of (cond b (row ∷ filter (λ row. test row.path) rows) (filter (λ row. test row.path) rows))
        ≡ cond b (key_of row ∷ map key_of (filter (λ row. test row.path) rows)) (map key_of (filter (λ row. test row.path) rows))
    by_test true = refl
    by_test false = refl

map_append : (xs ys : List Row) → map key_of (xs ++ ys) ≡ map key_of xs ++ map key_of ys
map_append [] ys = refl
map_append (x ∷ xs) ys = ap (λ (ks : List Key). key_of x ∷ ks) (map_append xs ys)

keys_put : (rows : List Row) (row : Row) → map key_of (put_row rows row) ≡ put_key (map key_of rows) (key_of row)
keys_put rows row =
    map_append (filter (λ other. is_before other.path row.path) rows) (row ∷ filter (λ other. is_before row.path other.path) rows)
    ∙ ap₂ (λ (a b : List Key). a ++ key_of row ∷ b) (kept (λ path. is_before path row.path) rows) (kept (λ path. is_before row.path path) rows)

keys_removed : (rows : List Row) (path : List ℕ) → map key_of (remove_row rows path) ≡ remove_key (map key_of rows) path
keys_removed rows path = kept (λ other. not (bytes_eq other path)) rows

-- ---- an edit

module _ (rows x : List Row) where
  abbrev keys : List Key
  keys = map key_of rows

  key_is : (path : List ℕ) (row : Row) → row_at rows path ≡ Some row → key_at keys path ≡ Some (key_of row)
  key_is path row found = key_found rows path ∙ ap (option_map key_of) found

  -- a row that is put in place of the one found at a path, with the same path and kind
  put_in_place : (path : List ℕ) (row new : Row) → row_at rows path ≡ Some row → key_of row ≡ key_of new → put_row rows new ≡ x → map key_of x ≡ put_again keys (key_at keys path)
  put_in_place path row new found same is =
      ap (map key_of) (sym is) ∙ keys_put rows new ∙ ap (put_key keys) (sym same) ∙ ap (put_again keys) (sym (key_is path row found))

  changed_key : (change : Change) (modified : Moment) (row new : Row) (content : Content) → changed_row change modified row content ≡ Some new → key_of row ≡ key_of new
  changed_key change modified row new (contents.Graph triples) h = by_test (has_triples triples change.removed) h
    where
      by_test : (t : Bool) → cond t (Some (with_content row (contents.Graph (changed_graph triples change.removed change.added)) modified)) None ≡ Some new → key_of row ≡ key_of new
      by_test true k = let same : with_content row (contents.Graph (changed_graph triples change.removed change.added)) modified ≡ new = cc in ap key_of same
      by_test false k = absurd cc
  changed_key change modified row new (contents.Bytes ctype bytes) h = absurd cc

  change_keys : (path : List ℕ) (change : Change) (modified : Moment) (row : Row) (o : Option Row) → row_at rows path ≡ Some row → changed_row change modified row row.content ≡ o → put_found rows o ≡ Some x → map key_of x ≡ put_again keys (key_at keys path)
  change_keys path change modified row None found is h = absurd cc
  change_keys path change modified row (Some new) found is h =
      let put : put_row rows new ≡ x = cc in
      put_in_place path row new found (changed_key change modified row new row.content is) put

  keys_change : (path : List ℕ) (change : Change) (modified : Moment) (o : Option Row) → row_at rows path ≡ o → change_found rows change modified o ≡ Some x → map key_of x ≡ put_again keys (key_at keys path)
  keys_change path change modified None found h = absurd cc
  keys_change path change modified (Some row) found h = change_keys path change modified row (changed_row change modified row row.content) found refl h

  keys_touch : (path : List ℕ) (modified : Moment) (o : Option Row) → row_at rows path ≡ o → touch_found rows modified o ≡ Some x → map key_of x ≡ put_again keys (key_at keys path)
  keys_touch path modified None found h = absurd cc
  keys_touch path modified (Some row) found h =
      let put : put_row rows (with_moment row modified) ≡ x = cc in
      put_in_place path row (with_moment row modified) found refl put

  keys_remove : (path : List ℕ) (o : Option Row) → row_at rows path ≡ o → remove_found rows o ≡ Some x → map key_of x ≡ remove_again keys (key_at keys path)
  keys_remove path None found h = absurd cc
  keys_remove path (Some row) found h =
      let removed : remove_row rows row.path ≡ x = cc in
      ap (map key_of) (sym removed) ∙ keys_removed rows row.path ∙ ap (remove_again keys) (sym (key_is path row found))

  edit_keys : (edit : Edit) → edited rows edit ≡ Some x → map key_of x ≡ keys_edited keys edit
  edit_keys (edits.Put row) h =
      let put : put_row rows row ≡ x = cc in
      ap (map key_of) (sym put) ∙ keys_put rows row
  edit_keys (edits.Change path change modified) h = keys_change path change modified (row_at rows path) refl h
  edit_keys (edits.Touch path modified) h = keys_touch path modified (row_at rows path) refl h
  edit_keys (edits.Remove path) h = keys_remove path (row_at rows path) refl h

-- ---- edits in their order

no_rows : (list : List Edit) → after_edits None list ≡ None
no_rows [] = refl
no_rows (edit ∷ more) = no_rows more

pub after_keys : (list : List Edit) (rows x : List Row) → after_edits (Some rows) list ≡ Some x → map key_of x ≡ keys_after (map key_of rows) list
after_keys [] rows x h = let same : rows ≡ x = cc in ap (map key_of) (sym same)
after_keys (edit ∷ more) rows x h = by_step (edited rows edit) refl h (after_keys more)
  where
    by_step : (o : Option (List Row)) → edited rows edit ≡ o → after_edits o more ≡ Some x → ((u v : List Row) → after_edits (Some u) more ≡ Some v → map key_of v ≡ keys_after (map key_of u) more)
        → map key_of x ≡ keys_after (keys_edited (map key_of rows) edit) more
    by_step None is k rest = let none : None ≡ Some x = sym (no_rows more) ∙ k in absurd cc
    by_step (Some u) is k rest = rest u x k ∙ ap (λ (ks : List Key). keys_after ks more) (edit_keys rows u edit is)

-- rows with the same paths and kinds have the same after the same edits
pub same_keys : (list : List Edit) (p q x y : List Row) → map key_of p ≡ map key_of q → after_edits (Some p) list ≡ Some x → after_edits (Some q) list ≡ Some y → map key_of x ≡ map key_of y
same_keys list p q x y e hx hy = after_keys list p x hx ∙ ap (λ (ks : List Key). keys_after ks list) e ∙ sym (after_keys list q y hy)
