use Rattle.std.proofs.Common.{List, sym, ◌∙◌, subst, ⊎_elim}
use Rattle.std.proofs.lemmas.List.Elements.{All-contains}
use Rattle.rdf_graph.specs.Change.{IsChanged}
use Rattle.rdf_graph.specs.Graph.{IsGraph, IsOrdered}
use Rattle.rdf_graph.specs.Triple.{IsRdf}
use Rattle.rdf_graph.specs.declared.triple.Triple.{Triple}
use Rattle.rdf_graph.proofs.Members.{All-from_members}
use Rattle.rdf_graph.proofs.change.changed.Goals as goal

changed_graph : (old removed added new : List Triple) → IsGraph old → IsGraph added → IsOrdered new → IsChanged old removed added new → IsGraph new
changed_graph old removed added new a b ordered is =
    record {
      ordered = ordered;
      rdf = All-from_members IsRdf new
          (λ x h. ⊎_elim (λ comes. All-contains IsRdf added x b.rdf comes) (λ stays. All-contains IsRdf old x a.rdf stays.0) ((is x).0 h));
    }

pub in_order-requires : goal.in_order-requires
in_order-requires c =
    subst IsGraph (sym c.from_vec.ensures.items)
    (changed_graph c.as_slice.result.now c.as_slice-removed.result.now c.as_slice-added.result.now c.in_ok-triples.triples.items
    c.as_slice.ensures.graph c.as_slice-added.ensures.graph c.in_ok-triples.ensures.ordered c.in_ok-triples.ensures.members)

pub returns : goal.returns
returns c =
    subst (IsChanged c.args.graph.now c.args.change.now.removed c.args.change.now.added) (sym (c.in_order.ensures ∙ c.from_vec.ensures.items))
    (subst (λ g. IsChanged g c.args.change.now.removed c.args.change.now.added c.in_ok-triples.triples.items) c.as_slice.ensures.triples
    (subst (λ r. IsChanged c.as_slice.result.now r c.args.change.now.added c.in_ok-triples.triples.items) c.as_slice-removed.ensures.triples
    (subst (λ a. IsChanged c.as_slice.result.now c.as_slice-removed.result.now a c.in_ok-triples.triples.items) c.as_slice-added.ensures.triples
    c.in_ok-triples.ensures.members)))
