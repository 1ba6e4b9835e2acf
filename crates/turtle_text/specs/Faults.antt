-- Why a text has no graph, or too large a one, and which fault is told.
--
-- A fault has an index: the number of lexemes before it. Faults of a lesser index have a lesser
-- position (`PlacesAscend` of `Laws`).
use Rattle.std.specs.Prelude.{◌≡◌, ◌<◌, ℕ, List, Result, Ok, Err}
use Rattle.rdf_graph.specs.declared.size.TheConstants.{TRIPLES_LIMIT}
use Rattle.rdf_graph.specs.declared.triple.Triple.{Triple as RdfTriple}
use Rattle.rdf_graph.specs.Size.{triples_size}
use Rattle.turtle_grammar.specs.declared.symbol.Start.TheVariants.{Document}
use Rattle.turtle_terms.specs.declared.fault.TurtleKind.TheVariants as Why
use Rattle.turtle_terms.specs.declared.fault.TurtleFault.{TurtleFault}
use Rattle.turtle_terms.specs.declared.fault.TurtleFault.TheVariants.{Bad, TooLarge, NoMemory}
use Rattle.turtle_reader.specs.declared.lexeme.Lexeme.{Lexeme}
use Rattle.turtle_reader.specs.declared.referent.ResolvedTriple.{ResolvedTriple}
use Rattle.turtle_reader.specs.FirstFaults as first
use Rattle.turtle_reader.specs.Texts.{AreComplete}
use Rattle.turtle_text.specs.Triples.{AreReferentTriples}
use Rattle.turtle_text.specs.Spells.{Spells}

-- The triples that are complete with these first lexemes of the bytes have this encoded size.
pub record HasSize (base bytes : List ℕ) (lexemes : List Lexeme) (size : ℕ) : Type 0 where
  pub resolved : List ResolvedTriple
  pub triples : List RdfTriple
  pub complete : AreComplete Document base bytes lexemes resolved
  pub are_triples : AreReferentTriples bytes resolved triples
  pub size_is : size ≡ triples_size triples

-- They pass the limit.
abbrev pub IsLarge : List ℕ → List ℕ → List Lexeme → Type 0
IsLarge base bytes lexemes =
    (size : ℕ) × HasSize base bytes lexemes size × (TRIPLES_LIMIT < size)

-- The bytes have this fault at this index, among others.
abbrev pub HasFaultAt : List ℕ → List ℕ → ℕ → TurtleFault → Type 0
HasFaultAt base bytes index fault = first.HasFaultAt (IsLarge base bytes) Document base bytes index fault

abbrev pub HasNoFault : List ℕ → List ℕ → Type 0
HasNoFault base bytes = first.HasNoFault (IsLarge base bytes) Document base bytes

-- The fault that is told: none has a lesser index, and none of this index a lesser rank.
abbrev pub IsFirstFault : List ℕ → List ℕ → TurtleFault → Type 0
IsFirstFault base bytes fault = first.IsFirstFault (IsLarge base bytes) Document base bytes fault

-- no bracket is too deep, and the triples aren't too large
abbrev pub IsWithinLimits : List ℕ → List ℕ → Type 0
IsWithinLimits base bytes = (index at : ℕ)
    → (HasFaultAt base bytes index (Bad at Why.Depth) → ⊥)
    × (HasFaultAt base bytes index (TooLarge at) → ⊥)

-- this graph, or out of memory
abbrev pub IsGraphOrNoMemory : Result (List RdfTriple) TurtleFault → List RdfTriple → Type 0
IsGraphOrNoMemory (Ok found) graph = found ≡ graph
IsGraphOrNoMemory (Err fault) graph = fault ≡ NoMemory

-- Where the bytes spell a graph within the limits, it is this graph, or out of memory.
abbrev pub HasOnlyGraph : List ℕ → List ℕ → Result (List RdfTriple) TurtleFault → Type 0
HasOnlyGraph base bytes result = (graph : List RdfTriple) → Spells base bytes graph
    → IsWithinLimits base bytes → IsGraphOrNoMemory result graph
