use Rattle.std.proofs.Common.{refl}
use Rattle.jsonld_expanded.proofs.walk_state.Walk.count_made.Goals as goal

pub returns : goal.returns
returns c = λ a h. (a, refl, record { next = h.next; size = h.size; kept = h.kept; rdf = h.rdf })
