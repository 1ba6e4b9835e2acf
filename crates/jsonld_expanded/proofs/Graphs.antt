-- A value stands for one graph at most.
use Rattle.std.proofs.Common.{◌≡◌, ℕ, List, sym, ap, ◌∙◌, subst}
use Rattle.std.specs.Prelude.{Contains}
use Rattle.rdf_graph.proofs.Graphs.{one_graph}
use Rattle.rdf_graph.specs.Graph.{IsGraph, SameSet}
use Rattle.rdf_graph.specs.declared.triple.Triple.{Triple}
use Rattle.serde_json.specs.Data.{Data}
use Rattle.jsonld_expanded.specs.Expands.{ExpandsTo, Expands, State, scope_of, start}
use Rattle.jsonld_expanded.proofs.Once.{once-document}

pub walks_once : (base : List ℕ) (value : Data) (ts us : List Triple) → ExpandsTo base value ts → ExpandsTo base value us → ts ≡ us
walks_once base value ts us x y =
    x.said ∙ ap (λ (a : State). a.triples) (once-document (scope_of base value) value start x.end y.end x.walk y.walk) ∙ sym y.said

same_set : (g h ts : List Triple) → SameSet g ts → SameSet h ts → SameSet g h
same_set g h ts x y = λ t. (λ c. (y t).1 ((x t).0 c), λ c. (x t).1 ((y t).0 c))

pub expands_once : (base : List ℕ) (value : Data) (g h : List Triple) → IsGraph g → IsGraph h → Expands base value g → Expands base value h → g ≡ h
expands_once base value g h is_g is_h x y =
    let same = walks_once base value x.triples y.triples x.expands y.expands in
    one_graph g h is_g is_h (same_set g h y.triples (subst (λ ts. SameSet g ts) same x.members) y.members)
