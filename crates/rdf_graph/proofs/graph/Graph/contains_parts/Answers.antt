use Rattle.std.proofs.Common.{◌≡◌, ◌↔◌, rules, subst, sym}
use Rattle.std.proofs.lemmas.Fn.{always_returns_same}
use Rattle.std.specs.Prelude.{IsTrue}
use Rattle.std.specs.List.{Contains}
use Rattle.rdf_graph.specs.Triple.{triple_cmp}
use Rattle.rdf_graph.specs.TripleLaws.{triple_cmp_total}
use Rattle.rdf_graph.specs.TripleRef.{triple_of}
use Rattle.rdf_graph.proofs.Exact.{triple_cmp_exact}
use Rattle.rdf_graph.proofs.Lookups.{looked_up}
use Rattle.rdf_graph.proofs.Sorted.{found_or_gap}
use Rattle.rdf_graph.proofs.graph.Graph.contains_parts.Goals as goal

pub returns : goal.returns
returns c =
    let t = triple_of c.args.triple.now in
    subst (λ g. IsTrue c.is_ok.result ↔ Contains g t) c.as_slice.ensures.triples
    (subst (λ b. IsTrue b ↔ Contains c.as_slice.result.now t) (sym c.is_ok.ensures.value)
    (looked_up c.as_slice.result.now t c.binary_search_by.result
    (found_or_gap triple_cmp_total triple_cmp_exact c.as_slice.result.now t c.binary_search_by.result c.as_slice.ensures.graph.ordered c.binary_search_by.ensures.bound
    (c.binary_search_by.ensures.position (λ y. triple_cmp y t) (always_returns_same _ (λ a r. r ≡ triple_cmp a.0.now t) _ (λ a r f' called. search rules))))))
