-- A row in place of another.
use Rattle.std.proofs.Common.{◌≡◌, true, ◌&&◌, List, [], ◌∷◌, Some, refl, sym, ap, ◌∙◌, subst}
use Rattle.std.proofs.lemmas.Bool.{and_parts, and_from}
use Rattle.pod_command.specs.declared.edit.Edit.{Edit}
use Rattle.pod_command.specs.declared.edit.Edit.TheVariants as edits
use Rattle.pod_command.specs.declared.row.Row.{Row}
use Rattle.pod_rows.specs.Apply.{after_edits, put_row, with_rows}
use Rattle.pod_rows.specs.Pod.{Pod, is_row, row_at}
use Rattle.pod_rows.specs.WellFormed.{WellFormed}
use Rattle.pod_edits.proofs.FoundRows.{put_here}
use Rattle.pod_edits.proofs.Transfer.{put_same}
use Rattle.pod_records.specs.Made.{EditsFit}
use Rattle.pod_records.specs.Touched.{is_placed, is_right, keeps_guard}
use Rattle.pod_records.proofs.Fine.{guard_from, right_from, row_here}

pub replaced_from : (p : Pod) (steps : List Edit) (row : Row) → WellFormed p → steps ≡ edits.Put row ∷ [] → is_row p.rows row.path ≡ true → (is_right row && keeps_guard p row.path row.content) ≡ true → EditsFit p steps
replaced_from p steps row w only here h =
    let parts = and_parts (is_right row) (keeps_guard p row.path row.content) h in
    record {
      rows = put_row p.rows row;
      after = ap (after_edits (Some p.rows)) only;
      well_formed = put_same p row w here (right_from row parts.0) (guard_from p row.path row.content parts.1);
    }

pub replaced_to : (p : Pod) (steps : List Edit) (row : Row) → steps ≡ edits.Put row ∷ [] → EditsFit p steps → (is_right row && keeps_guard p row.path row.content) ≡ true
replaced_to p steps row only e =
    let both : Some (put_row p.rows row) ≡ Some e.rows = sym (ap (after_edits (Some p.rows)) only) ∙ e.after in
    let same : put_row p.rows row ≡ e.rows = cc in
    let after : WellFormed (with_rows p (put_row p.rows row)) = subst (λ (rows : List Row). WellFormed (with_rows p rows)) (sym same) e.well_formed in
    let one = and_parts (is_right row) (keeps_guard p row.path row.content && is_placed (row_at (put_row p.rows row)) row.path) (row_here p (put_row p.rows row) (row_at (put_row p.rows row)) (λ q. refl) after row.path row (put_here p.rows row)) in
    and_from (is_right row) (keeps_guard p row.path row.content) one.0 (and_parts (keeps_guard p row.path row.content) (is_placed (row_at (put_row p.rows row)) row.path) one.1).0
