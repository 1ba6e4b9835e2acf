use Rattle.std.proofs.Common.{Result, Ok, Err, ◌≡◌, ◌≤◌, List, Some, length, take, drop, ℕ}
use Rattle.std.specs.Prelude.{slice_get, MatchResult}
use Rattle.std.specs.List.{All}
use Rattle.std.specs.declared.cmp.Ordering.TheVariants.{Less}
use Rattle.rdf_graph.specs.InsertionPoint.{IsInsertionPoint}
use Rattle.rdf_graph.specs.Triple.{triple_cmp}
use Rattle.rdf_graph.specs.declared.triple.Triple.{Triple}
use Rattle.rdf_graph.specs.TripleLaws.{triple_cmp_total}
use Rattle.rdf_graph.proofs.Exact.{triple_cmp_exact}
use Rattle.rdf_graph.proofs.Sorted.{found_or_gap}
use Rattle.rdf_graph.proofs.graph.position.Goals as goal

as_gap : (triples : List Triple) (t : Triple) (r : Result ℕ ℕ)
    → MatchResult r (λ i. slice_get triples i ≡ Some t) (λ i. (i ≤ length triples) × All (λ y. triple_cmp y t ≡ Less) (take i triples) × All (λ y. triple_cmp t y ≡ Less) (drop i triples))
    → MatchResult r (λ i. slice_get triples i ≡ Some t) (λ i. IsInsertionPoint triples i t)
as_gap triples t (Ok i) h = h
as_gap triples t (Err i) h = record { within = h.0; before = h.1; behind = h.2 }

pub returns : goal.returns
returns c =
    record {
      found = as_gap _ _ c.binary_search.result
          (found_or_gap triple_cmp_total triple_cmp_exact c.args.triples.now c.args.triple.now c.binary_search.result c.requires c.binary_search.ensures.bound c.binary_search.ensures.position);
    }
