use Rattle.rdf_graph.specs.Size.{triple_size}
use Rattle.turtle_text.proofs.Sums.{keeps_triple}
use Rattle.turtle_text.proofs.document_triples.Triples.push.Goals as goal

pub returns-clause-kept : goal.returns-clause-kept
returns-clause-kept c =
    keeps_triple c.args.self.now _ c.args.triple c.requires c.in_ok-push_item.ensures
    (λ m e. c.saturating_sum-size.ensures m (triple_size c.args.triple) e c.encoded_size.ensures)
