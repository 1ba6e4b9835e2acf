-- Edits that are appended one after another.
use Rattle.std.proofs.Common.{◌≡◌, ◌≤◌, ℕ, List, [], ◌∷◌, ◌++◌, length, take, map, Option, Some, sym, ap, ◌∙◌, append_assoc}
use Rattle.std.proofs.lemmas.List.{take_all}
use Rattle.pod_base.specs.declared.moment.Moment.{Moment}
use Rattle.pod_command.specs.declared.edit.Edit.{Edit}
use Rattle.pod_command.specs.declared.edit.Edit.TheVariants as edits
use Rattle.pod_command.specs.declared.row.Row.{Row}
use Rattle.pod_path.specs.Hierarchy.{acl_of, meta_of, parent_of}
use Rattle.pod_edits.specs.Edits.{put_container, touch_if, creation_edits, remove_if, deletion_edits}
use Rattle.pod_edits.specs.Places.{IsPlaceOf, nearest_of}
use Rattle.pod_edits.specs.declared.new_row_place.Place.{Place}

pub all_mapped : (m : Moment) (items paths : List (List ℕ)) (i : ℕ) (made : List Edit) → made ≡ map (put_container m) (take i items) → items ≡ paths → length items ≤ i → made ≡ map (put_container m) paths
all_mapped m items paths i made e same all = e ∙ ap (map (put_container m)) (take_all i items all ∙ same)

pub creation_from : (rows : List Row) (row : Row) (place : Place) (e1 e2 e3 : List Edit) → e1 ≡ map (put_container row.modified) place.missing.items → e2 ≡ e1 ++ edits.Put row ∷ []
    → e3 ≡ e2 ++ touch_if (Some place.nearest) row.modified → IsPlaceOf rows row.path place → e3 ≡ creation_edits rows row
unfolding creation_edits
creation_from rows row place e1 e2 e3 h1 h2 h3 i =
    h3 ∙ ap (λ (xs : List Edit). xs ++ touch_if (Some place.nearest) row.modified) (h2 ∙ ap (λ (xs : List Edit). xs ++ edits.Put row ∷ []) h1)
    ∙ append_assoc (map (put_container row.modified) place.missing.items) (edits.Put row ∷ []) (touch_if (Some place.nearest) row.modified)
    ∙ sym (ap (λ (paths : List (List ℕ)). map (put_container row.modified) paths ++ (edits.Put row ∷ touch_if (nearest_of rows row.path) row.modified)) i.missing
    ∙ ap (λ (o : Option (List ℕ)). map (put_container row.modified) place.missing.items ++ (edits.Put row ∷ touch_if o row.modified)) i.nearest)

pub deletion_from : (rows : List Row) (path : List ℕ) (m : Moment) (acl meta parent : Option (List ℕ)) (e1 e2 e3 e4 : List Edit) → e1 ≡ edits.Remove path ∷ [] → acl ≡ acl_of path → e2 ≡ e1 ++ remove_if rows acl
    → meta ≡ meta_of path → e3 ≡ e2 ++ remove_if rows meta → parent ≡ parent_of path → e4 ≡ e3 ++ touch_if parent m → e4 ≡ deletion_edits rows path m
unfolding deletion_edits
deletion_from rows path m acl meta parent e1 e2 e3 e4 h1 a h2 b h3 p h4 =
    h4 ∙ ap (λ (o : Option (List ℕ)). e3 ++ touch_if o m) p
    ∙ ap (λ (xs : List Edit). xs ++ touch_if (parent_of path) m) (h3 ∙ ap (λ (o : Option (List ℕ)). e2 ++ remove_if rows o) b
    ∙ ap (λ (xs : List Edit). xs ++ remove_if rows (meta_of path)) (h2 ∙ ap (λ (o : Option (List ℕ)). e1 ++ remove_if rows o) a ∙ ap (λ (xs : List Edit). xs ++ remove_if rows (acl_of path)) h1))
    ∙ append_assoc (edits.Remove path ∷ remove_if rows (acl_of path)) (remove_if rows (meta_of path)) (touch_if (parent_of path) m)
    ∙ append_assoc (edits.Remove path ∷ []) (remove_if rows (acl_of path)) (remove_if rows (meta_of path) ++ touch_if (parent_of path) m)
