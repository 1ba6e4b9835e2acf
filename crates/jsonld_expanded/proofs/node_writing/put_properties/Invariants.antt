use Rattle.std.proofs.Common.{length, ◌-◌, ◌≤◌, map, drop}
use Rattle.rdf_graph.specs.declared.triple.Triple.{Triple}
use Rattle.jsonld_expanded.specs.Runs.{runs}
use Rattle.jsonld_expanded.specs.Written.{properties_tokens, same_key_by_ref}
use Rattle.jsonld_expanded.proofs.Adding.{HasLeft}
use Rattle.jsonld_expanded.proofs.node_writing.put_properties.Given as goal
use denote.Ref.{Bor}

abbrev pub invariant-loop-at : goal.invariant-loop-at
invariant-loop-at l = (l.at ≤ length l.triples)
    × HasLeft l.initial.writer l.writer (properties_tokens (map (map (λ (r : Bor Triple). r.now)) (runs same_key_by_ref (drop l.at l.triples))))
    (properties_tokens (map (map (λ (r : Bor Triple). r.now)) (runs same_key_by_ref l.triples)))

abbrev pub decreases-loop-at : goal.decreases-loop-at
decreases-loop-at l = length l.triples - l.at
