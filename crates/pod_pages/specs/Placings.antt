-- An entry that puts one row, which is no access list.
use Rattle.std.specs.Prelude.{◌≡◌, false, List, [], ◌∷◌, Option, Some, None, is_some}
use Rattle.pod_command.specs.declared.edit.Edit.{Edit}
use Rattle.pod_command.specs.declared.edit.Edit.TheVariants as edits
use Rattle.pod_command.specs.declared.entry.Entry.{Entry}
use Rattle.pod_command.specs.declared.row.Row.{Row}
use Rattle.pod_path.specs.Hierarchy.{is_acl}
use Rattle.pod_rows.specs.Apply.{changed_row, with_moment}
use Rattle.pod_rows.specs.Pod.{row_at}
use Rattle.row_pages.specs.Items.{Placed, item_at, rows_of}
use Rattle.pod_pages.specs.Marks.{mark, path_mark}
use Rattle.pod_pages.specs.Versions.{path_of_edit}
use Rattle.pod_pages.specs.declared.row_marks.Mark.{Mark}
use Rattle.pod_pages.specs.declared.single_put.Placing.{Placing}

-- The row that an edit puts in place of this one, if it puts a row.
abbrev pub row_made : Edit → Option Row → Option Row
row_made (edits.Put new) row = Some new
row_made (edits.Change path change modified) None = None
row_made (edits.Change path change modified) (Some row) =
    changed_row change modified row row.content
row_made (edits.Touch path modified) None = None
row_made (edits.Touch path modified) (Some row) = Some (with_moment row modified)
row_made (edits.Remove path) row = None

-- The mark of the item at a path, or else the one that the path has without an item.
abbrev pub mark_found : Option Placed → Option Mark → Option Mark
mark_found None walked = walked
mark_found (Some item) walked = Some (mark item.list item.own)

-- The row of an item, if there is one.
abbrev pub row_if : Option Placed → Option Row
row_if None = None
row_if (Some item) = Some item.row

-- An edit puts the row of this item, at a path that is that of no access list. The item has the
-- mark of the path.
pub record IsEditPlacing (items : List Placed) (edit : Edit) (placing : Placing) : Type 0 where
  pub made : row_made edit (row_at (rows_of items) (path_of_edit edit)) ≡ Some placing.item.row
  pub plain : is_acl (path_of_edit edit) ≡ false
  pub replaces : placing.replaces ≡ is_some (item_at items (path_of_edit edit))
  pub marked : mark_found (item_at items (path_of_edit edit)) (path_mark items (path_of_edit edit))
      ≡ Some (mark placing.item.list placing.item.own)

-- An entry does no more than that.
pub record IsPlacing (items : List Placed) (entry : Entry) (placing : Placing) : Type 0 where
  pub edit : Edit
  pub only : entry.edits.items ≡ edit ∷ []
  pub is : IsEditPlacing items edit placing
