use Rattle.std.proofs.Common.{List, [], refl, sym, subst, arith}
use Rattle.std.specs.List.{All}
use Rattle.rdf_graph.specs.Size.{saturated}
use Rattle.rdf_graph.specs.Triple.{IsRdf}
use Rattle.rdf_graph.specs.declared.triple.Triple.{Triple}
use Rattle.jsonld_expanded.proofs.walk_state.Walk.new.Goals as goal

pub returns : goal.returns
unfolding saturated
returns c = record {
  next = refl;
  size = refl;
  kept = λ _. c.new.ensures.items;
  rdf = subst (λ (ts : List Triple). All IsRdf ts) (sym c.new.ensures.items) (λ k d l. absurd (omega (arith, l)));
}
