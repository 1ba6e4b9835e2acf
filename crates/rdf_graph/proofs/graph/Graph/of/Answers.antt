use Rattle.std.proofs.Common.{subst, sym, ◌≡◌, ◌≤◌}
use Rattle.std.specs.List.{All, dedup}
use Rattle.std.specs.Ordering.{eq_by_cmp}
use Rattle.std.proofs.lemmas.List.Filters.{dedup_is}
use Rattle.rdf_graph.specs.Graph.{SameSet}
use Rattle.rdf_graph.specs.Size.{triples_size}
use Rattle.rdf_graph.specs.Triple.{triple_cmp, IsRdf}
use Rattle.rdf_graph.proofs.Graphs.{same_after_sort, graph_after_sort}
use Rattle.rdf_graph.proofs.Sizes.{sorted_size}
use Rattle.rdf_graph.proofs.graph.Graph.of.Goals as goal

pub invariant_of-result : goal.invariant_of-result
invariant_of-result c =
    rw (dedup_is (eq_by_cmp triple_cmp) c.sort_unstable.new.self.items c.dedup.new.self.items c.dedup.ensures.filtered)
    (graph_after_sort c.into_vec-triples.result.items c.sort_unstable.new.self.items c.sort_unstable.ensures.permutation c.sort_unstable.ensures.sorted
    (subst (All IsRdf) (sym c.into_vec-triples.ensures) c.requires))

pub returns-clause-members : goal.returns-clause-members
returns-clause-members c =
    let kept : c.dedup.new.self.items ≡ dedup (eq_by_cmp triple_cmp) c.sort_unstable.new.self.items =
    dedup_is (eq_by_cmp triple_cmp) c.sort_unstable.new.self.items c.dedup.new.self.items c.dedup.ensures.filtered in
    let same : SameSet (dedup (eq_by_cmp triple_cmp) c.sort_unstable.new.self.items) c.args.triples.items =
    subst (SameSet (dedup (eq_by_cmp triple_cmp) c.sort_unstable.new.self.items)) c.into_vec-triples.ensures
    (same_after_sort c.into_vec-triples.result.items c.sort_unstable.new.self.items c.sort_unstable.ensures.permutation) in
    subst (λ g. SameSet g c.args.triples.items) (sym kept) same

pub returns-clause-size : goal.returns-clause-size
returns-clause-size c =
    let kept : c.dedup.new.self.items ≡ dedup (eq_by_cmp triple_cmp) c.sort_unstable.new.self.items =
    dedup_is (eq_by_cmp triple_cmp) c.sort_unstable.new.self.items c.dedup.new.self.items c.dedup.ensures.filtered in
    subst (λ g. triples_size g ≤ triples_size c.args.triples.items) (sym kept)
    (subst (λ xs. triples_size (dedup (eq_by_cmp triple_cmp) c.sort_unstable.new.self.items) ≤ triples_size xs) c.into_vec-triples.ensures
    (sorted_size (eq_by_cmp triple_cmp) c.into_vec-triples.result.items c.sort_unstable.new.self.items c.sort_unstable.ensures.permutation))
