-- The size of what a mapping makes of patterns.
use Rattle.std.proofs.Common.{ℕ, ◌+◌, ◌≡◌, arith, List, [], ◌∷◌, ap, sum, map, refl}
use Rattle.std.specs.List.{AllZip}
use Rattle.rdf_graph.specs.Size.{triple_size, triples_size}
use Rattle.rdf_graph.specs.declared.triple.Triple.{Triple}
use Rattle.rdf_graph.proofs.Sizes.{sum_first}
use Rattle.graph_patch.specs.Patch.{instance_size, instances_size, slot_size}
use Rattle.graph_patch.specs.Pattern.{Binding, Instantiates}
use Rattle.graph_patch.specs.declared.pattern.Pattern.{Pattern}

instance_size_of : (m : Binding) (pattern : Pattern) (t : Triple) → Instantiates m pattern t → triple_size t ≡ instance_size m pattern
instance_size_of m pattern t h = omega (arith, ap slot_size h.s, ap slot_size h.p, ap slot_size h.o)

-- the triples that a mapping makes of patterns
pub size_of_instances : (m : Binding) (patterns : List Pattern) (triples : List Triple) → AllZip (Instantiates m) patterns triples → triples_size triples ≡ instances_size m patterns
size_of_instances m [] [] h = refl
size_of_instances m [] (t ∷ triples) h = absurd h
size_of_instances m (c ∷ patterns) [] h = absurd h
size_of_instances m (c ∷ patterns) (t ∷ triples) h =
    omega (arith, sum_first (triple_size t) (map triple_size triples), sum_first (instance_size m c) (map (instance_size m) patterns), instance_size_of m c t h.0, size_of_instances m patterns triples h.1)
