-- What a change makes of a graph.
use Rattle.std.specs.Prelude.{List, ◌↔◌, ◌⊎◌, Contains}
use Rattle.rdf_graph.specs.declared.triple.Triple.{Triple}

-- (the old triples without the removed ones) with the added ones
abbrev pub IsChanged : List Triple → List Triple → List Triple → List Triple → Type 0
IsChanged old removed added new =
    (x : Triple) → Contains new x ↔ (Contains added x ⊎ (Contains old x × (Contains removed x → ⊥)))
