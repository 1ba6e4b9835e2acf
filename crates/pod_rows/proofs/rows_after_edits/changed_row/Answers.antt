use Rattle.std.proofs.Common.{◌≡◌, ◌∙◌, sym, ap}
use Rattle.std.proofs.lemmas.Bool.{false≢true}
use Rattle.pod_command.specs.declared.row.Content.TheVariants as contents
use Rattle.pod_rows.proofs.Changes.{fit, unfit}
use Rattle.pod_rows.proofs.rows_after_edits.changed_row.Goals as goal

pub returns-then-not-fits : goal.returns-then-not-fits
returns-then-not-fits c =
    unfit c.args.change.now c.args.modified c.args.row.now c.graph-graph.result.now (c.in-Graph.is ∙ ap contents.Graph (sym c.graph-graph.ensures))
    (λ all. false≢true (sym c.if-not-fits.true ∙ c.fits.ensures.1 all))

pub returns : goal.returns
returns c =
    fit c.args.change.now c.args.modified c.args.row.now c.graph-graph.result.now c.in_ok-path.path c.new.result (c.in-Graph.is ∙ ap contents.Graph (sym c.graph-graph.ensures))
    (c.fits.ensures.0 c.if-not-fits.false) c.in_ok-path.ensures (c.new.ensures ∙ c.in_ok-graph.ensures)
