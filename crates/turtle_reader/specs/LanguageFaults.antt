-- Faults of a language: their laws, and the first one where triples are never too large.
use Rattle.std.specs.Prelude.{◌≡◌, ◌<◌, ℕ, List}
use Rattle.turtle_grammar.specs.declared.symbol.Start.{Start}
use Rattle.turtle_terms.specs.declared.fault.TurtleFault.{TurtleFault}
use Rattle.turtle_reader.specs.declared.lexeme.Lexeme.{Lexeme}
use Rattle.turtle_reader.specs.FirstFaults.{HasFaultAt, IsFirstFault, NeverLarge, place_of}

-- The first fault of a text in a language without a limit that is judged as it is read.
abbrev pub IsFirstSyntaxFault : Start → List ℕ → List ℕ → TurtleFault → Type 0
IsFirstSyntaxFault start base bytes fault = IsFirstFault NeverLarge start base bytes fault

-- A text has at most one first fault.
abbrev pub HasOneFirstFault : (List ℕ → List ℕ → List Lexeme → Type 0) → Start → Type 0
HasOneFirstFault IsLarge start = (base bytes : List ℕ) (a b : TurtleFault)
    → IsFirstFault (IsLarge base bytes) start base bytes a
    → IsFirstFault (IsLarge base bytes) start base bytes b → a ≡ b

-- Faults of a lesser index have a lesser position.
abbrev pub PlacesAscend : (List ℕ → List ℕ → List Lexeme → Type 0) → Start → Type 0
PlacesAscend IsLarge start = (base bytes : List ℕ) (i j : ℕ) (f g : TurtleFault)
    → HasFaultAt (IsLarge base bytes) start base bytes i f
    → HasFaultAt (IsLarge base bytes) start base bytes j g → i < j → place_of f < place_of g
