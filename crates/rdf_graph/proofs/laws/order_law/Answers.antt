use Rattle.rdf_graph.specs.TripleLaws.{triple_cmp_total}
use Rattle.rdf_graph.proofs.Exact.{triple_cmp_exact}
use Rattle.rdf_graph.proofs.Delimiters.{line_tells}
use Rattle.rdf_graph.proofs.SubjectRanges.{line_order}
use Rattle.rdf_graph.proofs.laws.order_law.Goals as goal

pub returns : goal.returns
returns c =
    record { total = triple_cmp_total; exact = triple_cmp_exact; lines = line_order; identify = line_tells }
