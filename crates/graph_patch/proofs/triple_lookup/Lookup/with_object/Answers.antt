use Rattle.std.specs.Option.{option_copied}
use Rattle.std.proofs.Common.{None, Some, subst, sym}
use Rattle.graph_patch.specs.Lookup.{AreCandidates, IsLookup}
use Rattle.graph_patch.proofs.Candidates.{not_empty, object_candidates, range_candidates}
use Rattle.graph_patch.proofs.triple_lookup.Lookup.with_object.Goals as goal

pub subject_range-requires : goal.subject_range-requires
unfolding IsLookup
subject_range-requires c = c.requires.ordered

pub returns-then-is_empty : goal.returns-then-is_empty
returns-then-is_empty c =
    subst (AreCandidates (option_copied c.args.s) None (Some c.args.o.now) c.args.self.triples.now) (sym c.in_order.ensures)
    (range_candidates (option_copied c.args.s) None (Some c.args.o.now) c.args.self.triples.now c.subject_range.result.now c.subject_range.ensures.subject_range)

pub returns-else-is_empty : goal.returns-else-is_empty
unfolding IsLookup
returns-else-is_empty c =
    subst (AreCandidates (option_copied c.args.s) None (Some c.args.o.now) c.args.self.triples.now) (sym c.indexed.ensures)
    (object_candidates (option_copied c.args.s) None c.args.o.now c.args.self.triples.now _
    (c.range_of.ensures c.args.self.triples.now c.requires.ordered (c.requires.by_object (not_empty c.args.self.by_object.now c.is_empty.result c.is_empty.ensures c.if-is_empty.false))))
