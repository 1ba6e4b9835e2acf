use Rattle.std.specs.Option.{option_copied}
use Rattle.std.proofs.Common.{subst, sym}
use Rattle.graph_patch.specs.Lookup.{AreCandidates, IsLookup}
use Rattle.graph_patch.proofs.Candidates.{range_candidates}
use Rattle.graph_patch.proofs.triple_lookup.Lookup.candidates.Goals as goal

pub subject_range-requires : goal.subject_range-requires
unfolding IsLookup
subject_range-requires c = c.requires.ordered

pub returns-in_default : goal.returns-in_default
returns-in_default c =
    subst (AreCandidates (option_copied c.args.s) (option_copied c.args.p) (option_copied c.args.o) c.args.self.triples.now) (sym c.in_order.ensures)
    (range_candidates (option_copied c.args.s) (option_copied c.args.p) (option_copied c.args.o) c.args.self.triples.now c.subject_range.result.now c.subject_range.ensures.subject_range)
