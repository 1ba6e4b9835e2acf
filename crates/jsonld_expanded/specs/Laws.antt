-- What follows from the definition.
use Rattle.std.specs.Prelude.{◌≡◌, ℕ, List, [], ◌∷◌, All}
use Rattle.std.specs.List.{IsDistinct}
use Rattle.rdf_graph.specs.Graph.{IsGraph}
use Rattle.rdf_graph.specs.Laws.{TermsLackDelimiters}
use Rattle.rdf_graph.specs.Term.{term_eq}
use Rattle.rdf_graph.specs.declared.term.Term.{Term}
use Rattle.rdf_graph.specs.declared.triple.Triple.{Triple}
use Rattle.serde_json.specs.Data.{Data}
use Rattle.jsonld_expanded.specs.Document.{same_subject}
use Rattle.jsonld_expanded.specs.Runs.{runs}
use Rattle.jsonld_expanded.specs.Expands.{Expands, ExpandsTo}

-- A value stands for the triples of one walk at most.
abbrev pub WalksOnce : Type 0
WalksOnce = (base : List ℕ) (value : Data) (ts us : List Triple) → ExpandsTo base value ts
    → ExpandsTo base value us → ts ≡ us

-- A value stands for one graph at most.
abbrev pub ExpandsOnce : Type 0
ExpandsOnce = (base : List ℕ) (value : Data) (g h : List Triple) → IsGraph g → IsGraph h
    → Expands base value g → Expands base value h → g ≡ h

-- the subject of each run, that of its first triple
abbrev pub subjects : List (List Triple) → List Term
subjects [] = []
subjects ([] ∷ rs) = subjects rs
subjects ((t ∷ ts) ∷ rs) = t.s ∷ subjects rs

-- Each subject has one node object, where no label and no tag has a space.
abbrev pub SubjectsHaveOneNode : Type 0
SubjectsHaveOneNode = (graph : List Triple) → IsGraph graph → All TermsLackDelimiters graph
    → IsDistinct term_eq (subjects (runs same_subject graph))
