use Rattle.std.proofs.Common.{◌∙◌, List, ap, sym}
use Rattle.pod_command.specs.declared.row.Content.TheVariants as contents
use Rattle.rdf_graph.specs.declared.triple.Triple.{Triple}
use Rattle.pod_records.specs.LoneChanges.{has_removed}
use Rattle.pod_records.proofs.LoneChanges.{has_removed_is}
use Rattle.pod_records.proofs.lone_change.has_removed.Goals as goal

pub returns-in-Graph : goal.returns-in-Graph
returns-in-Graph c =
    has_removed_is c.args.change.now c.graph.result.now c.fits.result c.fits.ensures
    ∙ ap (λ (g : List Triple). has_removed c.args.change.now (contents.Graph g)) c.graph.ensures
    ∙ ap (has_removed c.args.change.now) (sym c.in-Graph.is)
