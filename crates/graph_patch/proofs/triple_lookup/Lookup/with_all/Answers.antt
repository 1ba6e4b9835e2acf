use Rattle.std.proofs.Common.{Some, subst, sym}
use Rattle.graph_patch.specs.Lookup.{AreCandidates, IsLookup}
use Rattle.graph_patch.proofs.triple_lookup.Lookup.with_all.Goals as goal

pub whole-requires : goal.whole-requires
unfolding IsLookup
whole-requires c = c.requires.ordered

pub returns : goal.returns
returns c =
    subst (AreCandidates (Some c.args.s.now) (Some c.args.p.now) (Some c.args.o.now) c.args.self.triples.now) (sym c.in_order.ensures) c.whole.ensures
