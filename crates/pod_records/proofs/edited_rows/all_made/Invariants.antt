use Rattle.std.proofs.Common.{take}
use Rattle.pod_records.specs.Made.{HasMade}
use Rattle.pod_records.proofs.edited_rows.all_made.Given as goal

abbrev pub invariant-loop-edit : goal.invariant-loop-edit
invariant-loop-edit g l = HasMade (g.S.PodState.pod l.state).rows (take l.edit-index l.edits) l.all.items
