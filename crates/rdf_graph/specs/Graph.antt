-- Graphs: sets of triples (RDF 1.1, section 3), kept in the order of their lines.
use Rattle.std.specs.Prelude.{ℕ, List, ◌≡◌, ◌≢◌, ◌↔◌, ◌⊎◌, All, Contains}
use Rattle.std.specs.List.{flat_map}
use Rattle.std.specs.List.Sorted.{IsStrictlySortedBy}
use Rattle.rdf_graph.specs.Triple.{line, triple_cmp, IsRdf}
use Rattle.rdf_graph.specs.declared.triple.Triple.{Triple}

-- the triples are in strict order, so without repeats
abbrev pub IsOrdered : List Triple → Type 0
IsOrdered = IsStrictlySortedBy triple_cmp

-- the triples of a graph, as it lists them
pub record IsGraph (triples : List Triple) : Type 0 where
  pub ordered : IsOrdered triples
  pub rdf : All IsRdf triples

-- the text of a graph: a line for each triple, in their order
abbrev pub graph_text : List Triple → List ℕ
graph_text triples = flat_map line triples

-- both have the same triples
abbrev pub SameSet : List Triple → List Triple → Type 0
SameSet xs ys = (x : Triple) → Contains xs x ↔ Contains ys x

-- the new triples are the old ones and t
abbrev pub SetWith : List Triple → Triple → List Triple → Type 0
SetWith old t new = (x : Triple) → Contains new x ↔ (Contains old x ⊎ (x ≡ t))

-- the new triples are the old ones but t
abbrev pub SetWithout : List Triple → Triple → List Triple → Type 0
SetWithout old t new = (x : Triple) → Contains new x ↔ (Contains old x × (x ≢ t))
