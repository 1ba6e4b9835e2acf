-- Laws of documents.
use Rattle.std.specs.Prelude.{◌≡◌, ℕ, List}
use Rattle.rdf_graph.specs.declared.triple.Triple.{Triple as RdfTriple}
use Rattle.turtle_text.specs.Spells.{Spells, SpellsTriples}

-- a text spells at most one graph
abbrev pub HasOneGraph : Type 0
HasOneGraph = (base bytes : List ℕ) (a b : List RdfTriple) → Spells base bytes a
    → Spells base bytes b → a ≡ b

-- by one list of lexemes and one tree of their derivation
abbrev pub HasOneDerivation : Type 0
HasOneDerivation = (base bytes : List ℕ) (ts us : List RdfTriple) (a : SpellsTriples base bytes ts)
    (b : SpellsTriples base bytes us)
    → (a.text.lexemes ≡ b.text.lexemes) × (a.text.derives.tree ≡ b.text.derives.tree) × (ts ≡ us)
