use Rattle.std.proofs.Common.{◌≤◌, ◌∙◌, ◌↔◌, ap, sym, subst, arith, length}
use Rattle.std.specs.List.{filter, Contains}
use Rattle.std.specs.Option.{option_copied}
use Rattle.std.proofs.lemmas.List.{take_all}
use Rattle.std.proofs.lemmas.List.Kept.{IsStrictlySortedBy-filter}
use Rattle.rdf_graph.specs.Graph.{IsOrdered}
use Rattle.rdf_graph.specs.SubjectRange.{IsSubjectRange}
use Rattle.rdf_graph.specs.Triple.{has_terms, HasTerms, triple_cmp}
use Rattle.rdf_graph.proofs.SubjectRanges.{range_members}
use Rattle.rdf_graph.proofs.graph.Graph.matching.Goals as goal

pub returns-clause-members : goal.returns-clause-members
returns-clause-members c =
    let past : length c.subject_range-triple-items.result.now ≤ c.loop-triple.triple-index = omega arith in
    let kept = c.from_vec.ensures.items ∙ c.loop-triple.invariant
    ∙ ap (filter (has_terms (option_copied c.args.s) (option_copied c.args.p) (option_copied c.args.o))) (take_all c.loop-triple.triple-index c.subject_range-triple-items.result.now past) in
    let subject_range : IsSubjectRange (option_copied c.args.s) c.args.self.now c.subject_range-triple-items.result.now =
    subst (λ g. IsSubjectRange (option_copied c.args.s) g c.subject_range-triple-items.result.now) c.as_slice.ensures.triples c.subject_range-triple-items.ensures.subject_range in
    λ x. subst (λ found. Contains found x ↔ (Contains c.args.self.now x × HasTerms (option_copied c.args.s) (option_copied c.args.p) (option_copied c.args.o) x)) (sym kept)
    (range_members (option_copied c.args.s) (option_copied c.args.p) (option_copied c.args.o) c.args.self.now c.subject_range-triple-items.result.now subject_range x)

pub returns-clause-ordered : goal.returns-clause-ordered
returns-clause-ordered c =
    let past : length c.subject_range-triple-items.result.now ≤ c.loop-triple.triple-index = omega arith in
    let kept = c.from_vec.ensures.items ∙ c.loop-triple.invariant
    ∙ ap (filter (has_terms (option_copied c.args.s) (option_copied c.args.p) (option_copied c.args.o))) (take_all c.loop-triple.triple-index c.subject_range-triple-items.result.now past) in
    subst IsOrdered (sym kept)
    (IsStrictlySortedBy-filter triple_cmp (has_terms (option_copied c.args.s) (option_copied c.args.p) (option_copied c.args.o)) c.subject_range-triple-items.result.now c.subject_range-triple-items.ensures.subject_range.ordered)
