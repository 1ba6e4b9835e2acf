use Rattle.rdf_graph.specs.Size.{triple_size}
use Rattle.sparql_patch.specs.UpdateSpells.{named_size}
use Rattle.sparql_patch.proofs.Counting.{counted_over}
use Rattle.sparql_patch.proofs.collected_triples.Collected.add.Goals as goal

pub returns-then-self-gt-TRIPLES_LIMIT-clause-counted : goal.returns-then-self-gt-TRIPLES_LIMIT-clause-counted
returns-then-self-gt-TRIPLES_LIMIT-clause-counted c = λ all h.
    let size = c.saturating_sum-self.ensures (named_size all) (triple_size c.args.naming.triple) h.size_is c.encoded_size.ensures in
    counted_over all c.args.naming _ size c.if-self-gt-TRIPLES_LIMIT.true
