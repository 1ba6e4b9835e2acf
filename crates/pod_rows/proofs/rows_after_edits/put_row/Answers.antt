use Rattle.std.proofs.Common.{◌∙◌, ◌++◌, ◌∷◌, ap, filter}
use Rattle.std.proofs.lemmas.List.{take_all}
use Rattle.pod_rows.specs.Apply.{is_before}
use Rattle.pod_rows.proofs.rows_after_edits.put_row.Goals as goal

pub returns : goal.returns
returns c =
    let path = c.args.row.now.path in
    let before = filter (λ r. is_before r.path path) c.args.rows.now in
    c.loop-later.invariant ∙ ap (λ later. before ++ c.args.row.now ∷ filter (λ r. is_before path r.path) later)
    (take_all c.loop-later.later-index c.args.rows.now c.loop-later-test.false)
