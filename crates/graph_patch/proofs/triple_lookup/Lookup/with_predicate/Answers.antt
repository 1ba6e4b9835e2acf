use Rattle.std.specs.Option.{option_copied}
use Rattle.std.proofs.Common.{None, Some, subst, sym}
use Rattle.graph_patch.specs.Lookup.{AreCandidates, IsLookup}
use Rattle.graph_patch.proofs.Candidates.{all_candidates, not_empty, predicate_candidates}
use Rattle.graph_patch.proofs.triple_lookup.Lookup.with_predicate.Goals as goal

pub returns-then-is_empty : goal.returns-then-is_empty
unfolding IsLookup
returns-then-is_empty c =
    subst (AreCandidates None (Some c.args.p.now) (option_copied c.args.o) c.args.self.triples.now) (sym c.in_order.ensures)
    (all_candidates None (Some c.args.p.now) (option_copied c.args.o) c.args.self.triples.now c.requires.ordered)

pub returns-else-is_empty : goal.returns-else-is_empty
unfolding IsLookup
returns-else-is_empty c =
    subst (AreCandidates None (Some c.args.p.now) (option_copied c.args.o) c.args.self.triples.now) (sym c.indexed.ensures)
    (predicate_candidates c.args.p.now (option_copied c.args.o) c.args.self.triples.now _
    (c.range_of.ensures c.args.self.triples.now c.requires.ordered (c.requires.by_predicate (not_empty c.args.self.by_predicate.now c.is_empty.result c.is_empty.ensures c.if-is_empty.false))))
