-- One change of a graph alone, as most patches are, of a row that may hold any graph.
use Rattle.std.specs.Prelude.{Bool, false, not, ◌||◌, if◌then◌else◌, List, [], ◌∷◌, Option, Some, None}
use Rattle.pod_command.specs.declared.edit.Edit.{Edit}
use Rattle.pod_command.specs.declared.edit.Edit.TheVariants as edits
use Rattle.pod_command.specs.declared.row.Content.{Content}
use Rattle.pod_command.specs.declared.row.Content.TheVariants as contents
use Rattle.pod_command.specs.declared.row.Row.{Row}
use Rattle.pod_edits.specs.Refusals.{is_root_list}
use Rattle.pod_rows.specs.GraphSets.{has_triples}
use Rattle.pod_rows.specs.Pod.{row_at}
use Rattle.pod_rows.specs.WellFormed.{is_container_kind}
use Rattle.rdf_graph.specs.declared.change.Change.{Change}

-- May the row hold any graph? The graph of a container lacks containment, and that of the root's
-- access list keeps the owner's control.
abbrev pub takes_any_graph : Row → Bool
takes_any_graph row = not (is_container_kind row.kind || is_root_list row.path)

-- Does the content have every triple that the change removes? Bytes take no change.
abbrev pub has_removed : Change → Content → Bool
has_removed change (contents.Graph triples) = has_triples triples change.removed
has_removed change (contents.Bytes ctype bytes) = false

-- Whether the change fits a row that may hold any graph; none for another row.
abbrev pub fits_row : Change → Option Row → Option Bool
fits_row change None = None
fits_row change (Some row) =
    if takes_any_graph row then Some (has_removed change row.content) else None

-- Whether edits that are one change alone fit; none for other edits, and for a row that may not
-- hold any graph.
abbrev pub fits_alone : List Row → List Edit → Option Bool
fits_alone rows (edits.Change path change modified ∷ []) = fits_row change (row_at rows path)
fits_alone rows _ = None
