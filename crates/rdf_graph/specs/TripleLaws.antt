-- The order of triples is total.
use Rattle.std.proofs.lemmas.Cmp.{on_total, then_total, nat_list_cmp_total}
use Rattle.std.specs.Cmp.{IsTotalOrder}
use Rattle.rdf_graph.specs.Term.{text}
use Rattle.rdf_graph.specs.Triple.{line, triple_cmp}

pub triple_cmp_total : IsTotalOrder triple_cmp
unfolding triple_cmp
triple_cmp_total =
    then_total (on_total line nat_list_cmp_total)
    (then_total (on_total (λ t. text t.s) nat_list_cmp_total)
    (on_total (λ t. text t.p) nat_list_cmp_total))
