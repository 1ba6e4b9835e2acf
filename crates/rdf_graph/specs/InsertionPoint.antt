-- Where to insert a triple into a list in order.
use Rattle.std.specs.Prelude.{ℕ, List, ◌≡◌, ◌≤◌, length, take, drop, All, slice_get, Some}
use Rattle.std.specs.declared.cmp.Ordering.TheVariants.{Less}
use Rattle.rdf_graph.specs.Triple.{triple_cmp}
use Rattle.rdf_graph.specs.declared.triple.Triple.{Triple}

-- the triples before the position are below t, and t is below those after it
pub record IsInsertionPoint (triples : List Triple) (position : ℕ) (t : Triple) : Type 0 where
  pub within : position ≤ length triples
  pub before : All (λ x. triple_cmp x t ≡ Less) (take position triples)
  pub behind : All (λ x. triple_cmp t x ≡ Less) (drop position triples)

-- the first list has a triple at position k that is below all of the second from position i on
pub record ComesFirst (first : List Triple) (k : ℕ) (second : List Triple) (i : ℕ) : Type 0 where
  pub next : Triple
  pub is_next : slice_get first k ≡ Some next
  pub below : All (λ x. triple_cmp next x ≡ Less) (drop i second)
