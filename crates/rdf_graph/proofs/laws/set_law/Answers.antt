use Rattle.rdf_graph.proofs.Graphs.{one_graph}
use Rattle.rdf_graph.proofs.Delimiters.{text_tells}
use Rattle.rdf_graph.proofs.laws.set_law.Goals as goal

pub returns : goal.returns
returns c = record { sets = one_graph; texts = text_tells }
