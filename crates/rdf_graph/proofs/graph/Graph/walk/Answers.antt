use Rattle.std.proofs.Common.{subst}
use Rattle.std.specs.Option.{option_copied}
use Rattle.std.proofs.lemmas.List.Kept.{IsStrictlySortedBy-filter}
use Rattle.rdf_graph.specs.SubjectRange.{IsSubjectRange}
use Rattle.rdf_graph.specs.Triple.{has_terms, triple_cmp}
use Rattle.rdf_graph.proofs.SubjectRanges.{range_members}
use Rattle.rdf_graph.proofs.graph.Graph.walk.Goals as goal

pub returns-clause-members : goal.returns-clause-members
returns-clause-members c =
    range_members (option_copied c.args.s) (option_copied c.args.p) (option_copied c.args.o) c.args.self.now c.subject_range-rest.result.now
    (subst (λ g. IsSubjectRange (option_copied c.args.s) g c.subject_range-rest.result.now) c.as_slice.ensures.triples c.subject_range-rest.ensures.subject_range)

pub returns-clause-ordered : goal.returns-clause-ordered
returns-clause-ordered c =
    IsStrictlySortedBy-filter triple_cmp (has_terms (option_copied c.args.s) (option_copied c.args.p) (option_copied c.args.o)) c.subject_range-rest.result.now c.subject_range-rest.ensures.subject_range.ordered
