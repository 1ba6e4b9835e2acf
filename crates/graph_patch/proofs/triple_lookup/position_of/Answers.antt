use Rattle.std.proofs.Common.{◌≡◌, rules}
use Rattle.std.proofs.lemmas.Fn.{always_returns_same}
use Rattle.rdf_graph.specs.Triple.{triple_cmp}
use Rattle.rdf_graph.specs.TripleLaws.{triple_cmp_total}
use Rattle.rdf_graph.specs.TripleRef.{triple_of}
use Rattle.rdf_graph.proofs.Exact.{triple_cmp_exact}
use Rattle.rdf_graph.proofs.Lookups.{IsFound, found_absent, found_there, found_within}
use Rattle.rdf_graph.proofs.Sorted.{found_or_gap}
use Rattle.graph_patch.proofs.triple_lookup.position_of.Goals as goal

pub returns : goal.returns
returns c =
    let t = triple_of c.args.triple.now in
    let is : IsFound c.args.triples.now t c.binary_search_by.result =
    found_or_gap triple_cmp_total triple_cmp_exact c.args.triples.now t c.binary_search_by.result c.requires c.binary_search_by.ensures.bound
    (c.binary_search_by.ensures.position (λ y. triple_cmp y t) (always_returns_same _ (λ a r. r ≡ triple_cmp a.0.now t) _ (λ a r f' called. search rules))) in
    record { found = found_there _ _ _ is; within = found_within _ _ _ is; absent = found_absent _ _ _ is }
