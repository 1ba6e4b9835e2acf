-- What is kept of a document as it is read.
use Rattle.std.specs.Prelude.{◌≡◌, ℕ, List, [], ◌∷◌, ◌++◌}
use Rattle.std.specs.List.{All}
use Rattle.rdf_graph.specs.declared.triple.Triple.{Triple as RdfTriple}
use Rattle.rdf_graph.specs.Size.{saturated, triples_size}
use Rattle.rdf_graph.specs.Triple.{IsRdf}
use Rattle.turtle_reader.specs.Documents.{AreLazyLabelsOf}
use Rattle.turtle_reader.specs.declared.referent.ResolvedTriple.{ResolvedTriple}
use Rattle.turtle_text.specs.declared.document_triples.Triples.{Triples}
use Rattle.turtle_text.specs.Triples.{IsReferentTriple, AreReferentTriples}

-- The triples are those of these referents, of RDF, and of this size.
pub record IsKept (bytes : List ℕ) (handed : List ResolvedTriple) (kept : Triples) : Type 0 where
  pub are_triples : AreReferentTriples bytes handed kept.list.items
  pub size_is : kept.size ≡ saturated (triples_size kept.list.items)
  pub rdf : All IsRdf kept.list.items

-- nothing is kept of whatever bytes
abbrev pub IsKeptAnywhere : Triples → Type 0
IsKeptAnywhere kept = (bytes : List ℕ) → IsKept bytes [] kept × AreLazyLabelsOf bytes kept.labels

-- Whatever was kept, it is one triple more.
abbrev pub KeepsTriple : RdfTriple → Triples → Triples → Type 0
KeepsTriple triple old new = (bytes : List ℕ) (handed : List ResolvedTriple) (one : ResolvedTriple)
    → IsKept bytes handed old → IsReferentTriple bytes one triple → IsKept bytes (handed ++ one ∷ []) new
