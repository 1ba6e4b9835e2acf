-- What edits make of rows, path by path.
use Rattle.std.specs.Prelude.{◌≡◌, ℕ, ◌+◌, Bool, true, List, length, filter, bytes_eq}
use Rattle.std.specs.Prelude.{Option, Some, None, is_some}
use Rattle.std.specs.List.{find}
use Rattle.pod_base.specs.declared.moment.Moment.{Moment}
use Rattle.pod_command.specs.Encodable.{AreInOrder}
use Rattle.pod_command.specs.declared.edit.Edit.{Edit}
use Rattle.pod_command.specs.declared.edit.Edit.TheVariants as edits
use Rattle.pod_command.specs.declared.row.Row.{Row}
use Rattle.rdf_graph.specs.declared.change.Change.{Change}
use Rattle.pod_rows.specs.Apply.{after_edits, changed_row, with_moment, with_rows}
use Rattle.pod_rows.specs.Pod.{Pod, row_at}
use Rattle.pod_rows.specs.WellFormed.{WellFormed}
use Rattle.pod_records.specs.declared.edited_rows.Made.{Made}

-- Was this made of the path?
abbrev pub is_made_at : List ℕ → Made → Bool
is_made_at path one = bytes_eq one.path path

-- What was made of the path last. The last one is the first of the list.
abbrev pub latest : List Made → List ℕ → Option Made
latest made path = find (is_made_at path) made

-- The row that was made, or else the old one.
abbrev pub row_now : Option Made → Option Row → Option Row
row_now None old = old
row_now (Some one) old = one.row

-- The row at a path, where this was made of the rows.
abbrev pub found_in : List Row → List Made → List ℕ → Option Row
found_in rows made path = row_now (latest made path) (row_at rows path)

-- The path of an edit.
abbrev pub path_of : Edit → List ℕ
path_of (edits.Put row) = row.path
path_of (edits.Change path change modified) = path
path_of (edits.Touch path modified) = path
path_of (edits.Remove path) = path

abbrev pub made_of : List ℕ → Option Row → Bool → Made
made_of path row was = record { path = path; row = row; was = was }

-- The row in place of another one.
abbrev pub replaced : List ℕ → Option Row → Option Made
replaced path None = None
replaced path (Some row) = Some (made_of path (Some row) true)

abbrev pub made_by_change : List ℕ → Change → Moment → Option Row → Option Made
made_by_change path change modified None = None
made_by_change path change modified (Some row) =
    replaced path (changed_row change modified row row.content)

abbrev pub made_by_touch : List ℕ → Moment → Option Row → Option Made
made_by_touch path modified None = None
made_by_touch path modified (Some row) = replaced path (Some (with_moment row modified))

abbrev pub made_by_removal : List ℕ → Option Row → Option Made
made_by_removal path None = None
made_by_removal path (Some row) = Some (made_of path None true)

-- What an edit makes of its path, where this row is at it, if it can be carried out.
abbrev pub made_by : Edit → Option Row → Option Made
made_by (edits.Put new) row = Some (made_of new.path (Some new) (is_some row))
made_by (edits.Change path change modified) row = made_by_change path change modified row
made_by (edits.Touch path modified) row = made_by_touch path modified row
made_by (edits.Remove path) row = made_by_removal path row

-- How many times a row was made, and how many times something was made of a row.
abbrev pub is_added : Made → Bool
is_added one = is_some one.row

abbrev pub is_gone : Made → Bool
is_gone one = one.was

unfoldable pub added : List Made → ℕ
added made = length (filter is_added made)

unfoldable pub gone : List Made → ℕ
gone made = length (filter is_gone made)

-- The edits can be carried out on the rows, and this is what they make of them.
pub record HasMade (old : List Row) (steps : List Edit) (made : List Made) : Type 0 where
  pub rows : List Row
  pub after : after_edits (Some old) steps ≡ Some rows
  pub order : AreInOrder rows
  pub found : (path : List ℕ) → row_at rows path ≡ found_in old made path
  pub count : length rows + gone made ≡ length old + added made

-- The edits can be carried out on the rows of the pod, which is well-formed after them.
pub record EditsFit (pod : Pod) (steps : List Edit) : Type 0 where
  pub rows : List Row
  pub after : after_edits (Some pod.rows) steps ≡ Some rows
  pub well_formed : WellFormed (with_rows pod rows)
