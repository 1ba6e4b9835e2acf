use Rattle.std.proofs.Common.{◌≡◌, List, [], inl, inr, ⊎_elim}
use Rattle.std.specs.List.{Contains}
use Rattle.rdf_graph.specs.Change.{IsChanged}
use Rattle.rdf_graph.specs.Graph.{IsGraph}
use Rattle.rdf_graph.specs.declared.triple.Triple.{Triple}
use Rattle.rdf_graph.proofs.Graphs.{one_graph}
use Rattle.rdf_graph.proofs.Members.{contains_none}
use Rattle.rdf_graph.proofs.laws.change_law.Goals as goal

nothing_changes : (old new : List Triple) → IsGraph old → IsGraph new → IsChanged old [] [] new → new ≡ old
nothing_changes old new a b h =
    one_graph new old b a
    (λ x. (λ m. ⊎_elim (λ added. absurd (contains_none x added)) (λ kept. kept.0) ((h x).0 m), λ m. (h x).1 (inr (m, λ removed. contains_none x removed))))

added_stays : (old removed added new : List Triple) (t : Triple) → IsChanged old removed added new → Contains removed t → Contains added t → Contains new t
added_stays old removed added new t h r a = (h t).1 (inl a)

pub returns : goal.returns
returns c = record { nothing = nothing_changes; added = added_stays }
