use Rattle.rdf_graph.specs.Size.{triple_size}
use Rattle.turtle_text.proofs.Judging.{judges_one, judges_none}
use Rattle.turtle_text.proofs.document_triples.TriplesLanguage.judge.Goals as goal

pub returns-in_ok-triple-in-Some-clause-judges : goal.returns-in_ok-triple-in-Some-clause-judges
returns-in_ok-triple-in-Some-clause-judges c =
    let t = c.in_ok-triple-in-Some.triple in
    judges_one c.args.bytes.now c.args.self.now c.in-Some.resolved t c.saturating_sum.result c.in_ok-triple-in-Some.ensures.triple
    (λ m e. c.saturating_sum.ensures m (triple_size t) e c.encoded_size.ensures) c.args.waiting c.in-Some.is

pub returns-in-None-clause-judges : goal.returns-in-None-clause-judges
returns-in-None-clause-judges c = judges_none c.args.bytes.now c.args.self.now c.args.waiting c.in-None.is
