-- The edits of replies put rows whose content is of their kind.
use Rattle.std.proofs.Common.{◌≡◌, ℕ, Bool, true, false, cond, ◌&&◌, List, [], ◌∷◌, ◌++◌, map, Option, Some, None}
use Rattle.std.specs.Prelude.{IsTrue}
use Rattle.std.specs.List.{AllByRecursion}
use Rattle.std.proofs.lemmas.Bool.{and_parts, false≢true}
use Rattle.pod_base.specs.declared.method.Method.{Method}
use Rattle.pod_base.specs.declared.method.Method.TheVariants.{Get, Head, Options, Post, Put, Patch, Delete, Other}
use Rattle.pod_base.specs.declared.moment.Moment.{Moment}
use Rattle.pod_command.specs.Encodable.{FitsKind, HasFittingContent, IsChanging, IsFittingEdit}
use Rattle.pod_command.specs.declared.edit.Edit.{Edit}
use Rattle.pod_command.specs.declared.edit.Edit.TheVariants as edits
use Rattle.pod_command.specs.declared.row.Content.{Content}
use Rattle.pod_command.specs.declared.row.Content.TheVariants as contents
use Rattle.pod_command.specs.declared.row.Kind.{Kind}
use Rattle.pod_command.specs.declared.row.Kind.TheVariants as kinds
use Rattle.pod_command.specs.declared.row.Row.{Row}
use Rattle.pod_edits.specs.Allowed.{IsFitting}
use Rattle.pod_edits.specs.Edits.{creation_edits, deletion_edits, put_container, put_edits, remove_if, removal_edits, touch_if}
use Rattle.pod_edits.specs.Places.{missing_of, nearest_of}
use Rattle.pod_path.specs.Hierarchy.{acl_of, is_acl, is_auxiliary, is_container, is_meta, meta_of, parent_of}
use Rattle.pod_reply.specs.DeleteReplies.{delete_edits}
use Rattle.pod_reply.specs.PutReplies.{making_edits}
use Rattle.pod_rows.specs.Pod.{Pod, is_row}
use Rattle.pod_rows.specs.WellFormed.{fits_kind, is_document}
use Rattle.reply_laws.specs.Granted.{is_change}

-- ---- methods

pub changing : (m : Method) → is_change m ≡ true → IsChanging m
changing Get h = absurd (false≢true h)
changing Head h = absurd (false≢true h)
changing Options h = absurd (false≢true h)
changing Post h = tt
changing Put h = tt
changing Patch h = tt
changing Delete h = tt
changing Other h = absurd (false≢true h)

-- ---- rows

no_second : (a : Bool) → (a && false) ≡ true → ⊥
no_second a h = false≢true (and_parts a false h).1

fits : (path : List ℕ) (kind : Kind) (content : Content) → IsTrue (fits_kind path kind content) → FitsKind kind content
fits path kinds.Container (contents.Graph triples) h = tt
fits path kinds.Container (contents.Bytes ctype bytes) h = no_second (is_container path) h
fits path kinds.Acl (contents.Graph triples) h = tt
fits path kinds.Acl (contents.Bytes ctype bytes) h = no_second (is_acl path) h
fits path kinds.Meta (contents.Graph triples) h = tt
fits path kinds.Meta (contents.Bytes ctype bytes) h = no_second (is_meta path) h
fits path kinds.Graph (contents.Graph triples) h = tt
fits path kinds.Graph (contents.Bytes ctype bytes) h = no_second (is_document path) h
fits path kinds.Bytes (contents.Graph triples) h = no_second (is_document path) h
fits path kinds.Bytes (contents.Bytes ctype bytes) h = tt

pub fitting_content : (row : Row) → IsFitting row → HasFittingContent row
fitting_content row h = fits row.path row.kind row.content h.kind

-- ---- edits

joined : (xs ys : List Edit) → AllByRecursion IsFittingEdit xs → AllByRecursion IsFittingEdit ys → AllByRecursion IsFittingEdit (xs ++ ys)
joined [] ys hx hy = hy
joined (x ∷ xs) ys hx hy = (hx.0, joined xs ys hx.1 hy)

containers : (modified : Moment) (paths : List (List ℕ)) → AllByRecursion IsFittingEdit (map (put_container modified) paths)
containers modified [] = tt
containers modified (path ∷ paths) = (tt, containers modified paths)

touches : (o : Option (List ℕ)) (modified : Moment) → AllByRecursion IsFittingEdit (touch_if o modified)
touches None modified = tt
touches (Some path) modified = (tt, tt)

pub creation_fits : (rows : List Row) (row : Row) → IsFitting row → AllByRecursion IsFittingEdit (creation_edits rows row)
unfolding creation_edits
creation_fits rows row h =
    joined (map (put_container row.modified) (missing_of rows row.path)) _ (containers row.modified (missing_of rows row.path))
    (fitting_content row h, touches (nearest_of rows row.path) row.modified)

pub making_fits : (pod : Pod) (row : Row) (exists : Bool) → IsFitting row → AllByRecursion IsFittingEdit (making_edits pod row exists)
making_fits pod row true h = (fitting_content row h, tt)
making_fits pod row false h = by_test (is_auxiliary row.path)
  where
    by_test : (b : Bool) → AllByRecursion IsFittingEdit (cond b (put_edits row) (creation_edits pod.rows row))
    by_test true = (fitting_content row h, tt)
    by_test false = creation_fits pod.rows row h

removes : (rows : List Row) (o : Option (List ℕ)) → AllByRecursion IsFittingEdit (remove_if rows o)
removes rows None = tt
removes rows (Some path) = by_test (is_row rows path)
  where
    by_test : (b : Bool) → AllByRecursion IsFittingEdit (cond b (edits.Remove path ∷ []) [])
    by_test true = (tt, tt)
    by_test false = tt

deletion_fits : (rows : List Row) (path : List ℕ) (modified : Moment) → AllByRecursion IsFittingEdit (deletion_edits rows path modified)
unfolding deletion_edits
deletion_fits rows path modified = (
  tt,
  joined (remove_if rows (acl_of path)) _ (removes rows (acl_of path))
      (joined (remove_if rows (meta_of path)) _ (removes rows (meta_of path)) (touches (parent_of path) modified)),
)

pub delete_fits : (pod : Pod) (path : List ℕ) (modified : Moment) → AllByRecursion IsFittingEdit (delete_edits pod path modified)
delete_fits pod path modified = by_test (is_auxiliary path)
  where
    by_test : (b : Bool) → AllByRecursion IsFittingEdit (cond b (removal_edits path) (deletion_edits pod.rows path modified))
    by_test true = (tt, tt)
    by_test false = deletion_fits pod.rows path modified
