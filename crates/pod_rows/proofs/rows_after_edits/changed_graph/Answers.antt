use Rattle.std.proofs.Common.{subst}
use Rattle.rdf_graph.specs.Graph.{IsGraph}
use Rattle.pod_rows.proofs.Sets.{changed_is}
use Rattle.pod_rows.proofs.rows_after_edits.changed_graph.Goals as goal

pub returns : goal.returns
returns c =
    changed_is c.args.graph.now c.args.change.now.removed c.args.change.now.added c.in_ok-new.new
    (subst IsGraph c.as_slice-old.ensures.triples c.as_slice-old.ensures.graph)
    (subst IsGraph c.as_slice-added.ensures.triples c.as_slice-added.ensures.graph)
    (subst IsGraph c.as_slice-new.ensures.triples c.as_slice-new.ensures.graph)
    c.in_ok-new.ensures
