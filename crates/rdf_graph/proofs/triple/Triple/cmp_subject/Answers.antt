use Rattle.rdf_graph.proofs.SubjectOrder.{decides_subject}
use Rattle.rdf_graph.proofs.triple.Triple.cmp_subject.Goals as goal

pub returns-in-Some : goal.returns-in-Some
returns-in-Some c = decides_subject c.args.self.now c.args.subject.now c.in-Some.order c.in-Some.ensures
