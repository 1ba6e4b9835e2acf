-- What a version keeps.
use Rattle.std.specs.Prelude.{◌≤◌, ◌^◌, ℕ, false, List}
use Rattle.pod_command.specs.declared.edit.Edit.{Edit}
use Rattle.pod_command.specs.declared.edit.Edit.TheVariants as edits
use Rattle.pod_command.specs.declared.row.Row.{Row}
use Rattle.pod_rows.specs.WellFormed.{WellFormed}
use Rattle.row_pages.specs.Items.{Placed, rows_of}
use Rattle.pod_pages.specs.Numbering.{AreResolved, Places}
use Rattle.pod_pages.specs.State.{VersionState}
use Rattle.pod_pages.specs.declared.entry_effects.Effect.{Effect}

abbrev pub state_of : ℕ → List ℕ → List ℕ → List Placed → List Effect → ℕ → VersionState
state_of next base owner items effects oldest = record {
  pod = record { base = base; owner = owner; rows = rows_of items };
  next = next;
  effects = effects;
  oldest = oldest;
}

-- The pod is well-formed, and each row is marked with the list that governs it.
pub record IsVersion (state : VersionState) (items : List Placed) (places : Places) : Type 0 where
  pub number : state.next ≤ 2 ^ 63
  pub well_formed : WellFormed state.pod
  pub resolved : AreResolved state.pod.base items places
  pub kept : state.oldest ≤ state.next

-- A row without a mark.
abbrev pub unmarked : Row → Placed
unmarked row = record { row = row; list = 0; own = false }

-- The path of an edit.
abbrev pub path_of_edit : Edit → List ℕ
path_of_edit (edits.Put row) = row.path
path_of_edit (edits.Change path change modified) = path
path_of_edit (edits.Touch path modified) = path
path_of_edit (edits.Remove path) = path
