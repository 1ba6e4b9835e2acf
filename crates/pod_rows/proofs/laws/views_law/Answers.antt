use Rattle.pod_rows.specs.View.{shown_triples}
use Rattle.pod_rows.proofs.Sets.{graph_same, graph_is}
use Rattle.pod_rows.proofs.laws.views_law.Goals as goal

pub returns : goal.returns
returns c = record {
  view = λ pod container. graph_same (shown_triples pod container);
  graph = graph_is;
}
