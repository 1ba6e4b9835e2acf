-- What an entry makes of a pod.
use Rattle.std.specs.Prelude.{◌≡◌, ℕ, ◌+◌, ◌<◌, ◌^◌, Bool, not, List, [], ◌∷◌, ◌++◌, filter, take}
use Rattle.std.specs.Prelude.{Option, Some, None, if◌then◌else◌}
use Rattle.std.specs.Ordering.{is_lt}
use Rattle.rdf_graph.specs.Triple.{bytes_cmp}
use Rattle.rdf_graph.specs.declared.change.Change.{Change}
use Rattle.pod_base.specs.declared.moment.Moment.{Moment}
use Rattle.pod_command.specs.declared.edit.Edit.{Edit}
use Rattle.pod_command.specs.declared.edit.Edit.TheVariants as edits
use Rattle.pod_command.specs.declared.entry.Entry.{Entry}
use Rattle.pod_command.specs.declared.row.Content.{Content}
use Rattle.pod_command.specs.declared.row.Content.TheVariants as contents
use Rattle.pod_command.specs.declared.row.Row.{Row}
use Rattle.pod_rows.specs.GraphSets.{changed_graph, has_triples}
use Rattle.pod_rows.specs.Pod.{Pod, is_at, row_at}
use Rattle.pod_rows.specs.WellFormed.{WellFormed}

-- Is the path before the other in byte order?
abbrev pub is_before : List ℕ → List ℕ → Bool
is_before path other = is_lt (bytes_cmp path other)

-- The rows with this one, which replaces the row at its path.
abbrev pub put_row : List Row → Row → List Row
put_row rows row = filter (λ other. is_before other.path row.path) rows
    ++ row ∷ filter (λ other. is_before row.path other.path) rows

-- The rows without the one at the path.
abbrev pub remove_row : List Row → List ℕ → List Row
remove_row rows path = filter (λ row. not (is_at path row)) rows

-- The row with this content and moment.
abbrev pub with_content : Row → Content → Moment → Row
with_content row content modified = record row { content = content; modified = modified }

abbrev pub with_moment : Row → Moment → Row
with_moment row modified = record row { modified = modified }

-- The row with its graph changed. It holds a graph that has all removed triples.
abbrev pub changed_row : Change → Moment → Row → Content → Option Row
changed_row change modified row (contents.Graph triples) =
    if has_triples triples change.removed
    then Some (with_content row
    (contents.Graph (changed_graph triples change.removed change.added)) modified)
    else None
changed_row change modified row (contents.Bytes ctype bytes) = None

-- The rows with the row, if there is one.
abbrev pub put_found : List Row → Option Row → Option (List Row)
put_found rows None = None
put_found rows (Some row) = Some (put_row rows row)

abbrev pub change_found : List Row → Change → Moment → Option Row → Option (List Row)
change_found rows change modified None = None
change_found rows change modified (Some row) =
    put_found rows (changed_row change modified row row.content)

abbrev pub touch_found : List Row → Moment → Option Row → Option (List Row)
touch_found rows modified None = None
touch_found rows modified (Some row) = Some (put_row rows (with_moment row modified))

abbrev pub remove_found : List Row → Option Row → Option (List Row)
remove_found rows None = None
remove_found rows (Some row) = Some (remove_row rows row.path)

-- The rows after one edit. All but a Put need a row at their path.
abbrev pub edited : List Row → Edit → Option (List Row)
edited rows (edits.Put row) = Some (put_row rows row)
edited rows (edits.Change path change modified) =
    change_found rows change modified (row_at rows path)
edited rows (edits.Touch path modified) = touch_found rows modified (row_at rows path)
edited rows (edits.Remove path) = remove_found rows (row_at rows path)

abbrev pub edited_if : Option (List Row) → Edit → Option (List Row)
edited_if None edit = None
edited_if (Some rows) edit = edited rows edit

-- The rows after edits in their order.
abbrev pub after_edits : Option (List Row) → List Edit → Option (List Row)
after_edits rows [] = rows
after_edits rows (edit ∷ more) = after_edits (edited_if rows edit) more

abbrev pub with_rows : Pod → List Row → Pod
with_rows pod rows = record pod { rows = rows }

-- The pod with these rows, if there are any.
abbrev pub with_rows_if : Pod → Option (List Row) → Pod
with_rows_if pod None = pod
with_rows_if pod (Some rows) = with_rows pod rows

-- The pod after an entry that applies to it.
abbrev pub applied : Pod → Entry → Pod
applied pod entry = with_rows_if pod (after_edits (Some pod.rows) entry.edits.items)

-- The entry applies to the pod, whose next number this is.
pub record Applies (pod : Pod) (next : ℕ) (entry : Entry) : Type 0 where
  pub number : entry.seq ≡ next
  pub numbered : next < 2 ^ 63
  pub rows : List Row
  pub edits : after_edits (Some pod.rows) entry.edits.items ≡ Some rows
  pub well_formed : WellFormed (with_rows pod rows)

-- The pod after these entries, one after another.
abbrev pub replayed : Pod → List Entry → Pod
replayed pod [] = pod
replayed pod (entry ∷ more) = replayed (applied pod entry) more

-- The pod before the entry at a position of a history.
abbrev pub replay : Pod → List Entry → ℕ → Pod
replay first history position = replayed first (take position history)

-- Each entry applies after those before it, and their numbers run on from the next one.
abbrev pub AllApply : Pod → ℕ → List Entry → Type 0
AllApply pod next [] = Unit {0}
AllApply pod next (entry ∷ more) = Applies pod next entry × AllApply (applied pod entry) (next + 1) more
