-- What a change does to the rows of a pod: its edits, in their order.
use Rattle.std.specs.Prelude.{ℕ, List, [], ◌∷◌, ◌++◌, map, if◌then◌else◌, Option, Some, None}
use Rattle.pod_base.specs.declared.moment.Moment.{Moment}
use Rattle.pod_command.specs.declared.edit.Edit.{Edit}
use Rattle.pod_command.specs.declared.edit.Edit.TheVariants as edits
use Rattle.pod_command.specs.declared.row.Content.TheVariants as contents
use Rattle.pod_command.specs.declared.row.Kind.TheVariants as kinds
use Rattle.pod_command.specs.declared.row.Row.{Row}
use Rattle.pod_path.specs.Hierarchy.{acl_of, meta_of, parent_of}
use Rattle.rdf_graph.specs.declared.change.Change.{Change}
use Rattle.pod_rows.specs.Pod.{is_row}
use Rattle.pod_edits.specs.Places.{nearest_of, missing_of}

-- An empty container, as each container is made that is missing above a new row.
abbrev pub container_row : Moment → List ℕ → Row
container_row modified path = record {
  path = path;
  kind = kinds.Container;
  content = contents.Graph [];
  modified = modified;
}

abbrev pub put_container : Moment → List ℕ → Edit
put_container modified path = edits.Put (container_row modified path)

abbrev pub touch_if : Option (List ℕ) → Moment → List Edit
touch_if None modified = []
touch_if (Some path) modified = edits.Touch path modified ∷ []

-- A new row that is no access list and no description (PUT, PATCH, POST): the missing containers
-- from the top, the row, and a touch of the nearest ancestor that was a row before.
unfoldable pub creation_edits : List Row → Row → List Edit
creation_edits rows row = map (put_container row.modified) (missing_of rows row.path)
    ++ (edits.Put row ∷ touch_if (nearest_of rows row.path) row.modified)

-- A PUT of a row, and a new access list or description (PUT, PATCH).
abbrev pub put_edits : Row → List Edit
put_edits row = edits.Put row ∷ []

-- A PATCH of a row.
abbrev pub change_edits : List ℕ → Change → Moment → List Edit
change_edits path change modified = edits.Change path change modified ∷ []

-- A path is removed where it is a row.
abbrev pub remove_if : List Row → Option (List ℕ) → List Edit
remove_if rows None = []
remove_if rows (Some path) = if is_row rows path then edits.Remove path ∷ [] else []

-- A DELETE of what is no access list and no description: the row, its access list and its
-- description where they are rows, and a touch of its parent.
unfoldable pub deletion_edits : List Row → List ℕ → Moment → List Edit
deletion_edits rows path modified = edits.Remove path ∷ (remove_if rows (acl_of path)
    ++ (remove_if rows (meta_of path) ++ touch_if (parent_of path) modified))

-- A DELETE of an access list or a description.
abbrev pub removal_edits : List ℕ → List Edit
removal_edits path = edits.Remove path ∷ []
