-- Which changes a pod accepts: no test refuses them, and new content is valid by itself.
use Rattle.std.specs.Prelude.{◌≡◌, ℕ, false, IsTrue, List, Some, Ok}
use Rattle.pod_command.specs.declared.entry.Entry.{Entry}
use Rattle.pod_base.specs.declared.moment.Moment.{Moment}
use Rattle.pod_command.specs.declared.row.Content.TheVariants as contents
use Rattle.pod_command.specs.declared.row.Row.{Row}
use Rattle.pod_path.specs.Hierarchy.{is_auxiliary, is_root}
use Rattle.pod_path.specs.Norm.{norm}
use Rattle.rdf_graph.specs.declared.change.Change.{Change}
use Rattle.rdf_graph.specs.declared.triple.Triple.{Triple}
use Rattle.pod_rows.specs.Apply.{with_content}
use Rattle.pod_rows.specs.GraphSets.{changed_graph, has_triples}
use Rattle.pod_rows.specs.Pod.{Pod, row_at, is_row}
use Rattle.pod_rows.specs.View.{triples_in}
use Rattle.pod_rows.specs.WellFormed.{has_right_kind}
use Rattle.pod_edits.specs.Refusals.{added_rows, breaks_guard, exceeds_rows, has_children, is_bytes}
use Rattle.pod_edits.specs.Refusals.{is_root_list, lacks_number, lacks_subject, meets_twin}
use Rattle.pod_edits.specs.Refusals.{states_containment}

-- The triples of a row.
abbrev pub triples_of : Row → List Triple
triples_of row = triples_in row.content

-- The entry has the number of the next change, and there is one.
pub record HasNumber (next : ℕ) (entry : Entry) : Type 0 where
  pub seq : entry.seq ≡ next
  pub number : lacks_number next ≡ false

-- A row is valid by itself.
pub record IsFitting (row : Row) : Type 0 where
  pub path : norm row.path ≡ Ok row.path
  pub kind : IsTrue (has_right_kind row)
  pub containment : states_containment row.path (triples_of row) ≡ false

-- A new row that is no access list and no description.
pub record CanCreate (pod : Pod) (row : Row) : Type 0 where
  pub fitting : IsFitting row
  pub plain : is_auxiliary row.path ≡ false
  pub absent : is_row pod.rows row.path ≡ false
  pub twin : meets_twin pod.rows row.path ≡ false
  pub room : exceeds_rows pod.rows (added_rows pod.rows row.path) ≡ false

-- A new access list or description.
pub record CanAdd (pod : Pod) (row : Row) : Type 0 where
  pub fitting : IsFitting row
  pub auxiliary : IsTrue (is_auxiliary row.path)
  pub absent : is_row pod.rows row.path ≡ false
  pub subject : lacks_subject pod.rows row.path ≡ false
  pub room : exceeds_rows pod.rows (added_rows pod.rows row.path) ≡ false

-- A row in place of the one at its path.
pub record CanReplace (pod : Pod) (row : Row) : Type 0 where
  pub fitting : IsFitting row
  pub present : IsTrue (is_row pod.rows row.path)
  pub guard : breaks_guard pod row.path (triples_of row) ≡ false

-- The row with its graph changed.
abbrev pub changed_to : Row → Change → Moment → Row
changed_to row change modified = with_content row
    (contents.Graph (changed_graph (triples_of row) change.removed change.added)) modified

-- A change of the row at a path.
pub record CanChange (pod : Pod) (path : List ℕ) (change : Change) (row : Row) : Type 0 where
  pub found : row_at pod.rows path ≡ Some row
  pub graph : is_bytes row.kind ≡ false
  pub removed : IsTrue (has_triples (triples_of row) change.removed)
  pub containment : states_containment path change.added ≡ false
  pub guard : breaks_guard pod path
      (changed_graph (triples_of row) change.removed change.added) ≡ false

-- The removal of what is no access list and no description.
pub record CanDelete (pod : Pod) (path : List ℕ) : Type 0 where
  pub plain : is_auxiliary path ≡ false
  pub present : IsTrue (is_row pod.rows path)
  pub root : is_root path ≡ false
  pub children : has_children pod.rows path ≡ false

-- The removal of an access list or a description.
pub record CanRemove (pod : Pod) (path : List ℕ) : Type 0 where
  pub auxiliary : IsTrue (is_auxiliary path)
  pub present : IsTrue (is_row pod.rows path)
  pub list : is_root_list path ≡ false
