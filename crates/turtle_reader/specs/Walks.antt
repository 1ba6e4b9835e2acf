-- What the walk over the lexemes of a text keeps.
use Rattle.std.specs.Prelude.{◌≡◌, ◌+◌, ◌<◌, ◌&&◌, ℕ, Bool, true, false, List, [], ◌∷◌, ◌++◌, length}
use Rattle.std.specs.Prelude.{Option, Some, None}
use Rattle.turtle_grammar.specs.declared.production.SymbolicTriple.{SymbolicTriple}
use Rattle.turtle_grammar.specs.declared.production.Production.{Production}
use Rattle.turtle_grammar.specs.declared.symbol.Start.{Start}
use Rattle.turtle_grammar.specs.Readings.{HasString, IsTriple, Waits}
use Rattle.turtle_terms.specs.declared.fault.TurtleFault.TheVariants.{TooLarge}
use Rattle.turtle_reader.specs.declared.lexeme.Lexeme.{Lexeme}
use Rattle.turtle_reader.specs.declared.meaning.Meaning.{Meaning}
use Rattle.turtle_reader.specs.declared.progress.Progress.{Progress}
use Rattle.turtle_reader.specs.declared.reader.Reader.{Reader}
use Rattle.turtle_reader.specs.declared.referent.ResolvedTriple.{ResolvedTriple}
use Rattle.turtle_reader.specs.Faults.{Next}
use Rattle.turtle_reader.specs.FirstFaults.{HasFaultAt, IsFirstFault}
use Rattle.turtle_reader.specs.Handed.{AreResolved}
use Rattle.turtle_reader.specs.Readings.{IsReading, Resolves}
use Rattle.turtle_reader.specs.Texts.{AreLexemesTo, IsLexed, adds_to_string}

-- the position is that of the last of these lexemes, if there is one
abbrev pub IsLastAt : List Lexeme → Option ℕ → Type 0
IsLastAt lexemes None = lexemes ≡ []
IsLastAt lexemes (Some at) =
    (before : List Lexeme) × (last : Lexeme) × (lexemes ≡ before ++ last ∷ []) × (at ≡ last.from)

-- The triples that are complete with the lexemes of these indexes are not too large.
abbrev pub FitsBelow : (List Lexeme → Type 0) → Start → List ℕ → List ℕ → ℕ → Type 0
FitsBelow IsLarge start base bytes count =
    (i at : ℕ) → i < count → HasFaultAt IsLarge start base bytes i (TooLarge at) → ⊥

-- The text was read up to this position: these are its lexemes, their triples were handed out, and
-- this is kept of them.
pub record HasKept {T : Type 0} (IsKept : List ℕ → List ResolvedTriple → T → Type 0)
    (IsLarge : List Lexeme → Type 0) (start : Start) (base bytes : List ℕ) (at : ℕ)
    (p : Progress) (kept : T) : Type 0 where
  pub lexemes : List Lexeme
  pub productions : List Production
  pub meanings : List Meaning
  pub handed : List ResolvedTriple
  pub lexemes_are : AreLexemesTo start bytes 0 false lexemes at p.after_string
  pub reading : IsReading start base bytes lexemes productions meanings p.reader
  pub resolved : AreResolved meanings productions handed
  pub string : p.after_string ≡ true → HasString p.reader.machine
  pub last : IsLastAt lexemes p.last
  pub fits : (count : ℕ) → count + 1 ≡ length lexemes → FitsBelow IsLarge start base bytes count
  pub is_kept : IsKept bytes handed kept

-- the triple of a last String, where nothing is added to it
abbrev pub if_complete : Bool → Option SymbolicTriple → Option SymbolicTriple
if_complete true waiting = None
if_complete false waiting = waiting

-- what the nodes of a triple refer to, if there is one
abbrev pub ResolvesIf : Option SymbolicTriple → Reader → Option ResolvedTriple → Type 0
ResolvesIf None reader resolved = resolved ≡ None
ResolvesIf (Some triple) reader resolved =
    (one : ResolvedTriple) × (resolved ≡ Some one) × Resolves triple reader one

-- The triple that is complete with the last lexeme beside those that were handed out, where this
-- comes next.
pub record Completes (next : Next) (p : Progress) (found : Option ResolvedTriple) : Type 0 where
  pub waiting : Option SymbolicTriple
  pub waits : Waits waiting p.reader.machine
  pub has_string : HasString p.reader.machine → IsTriple waiting
  pub resolves : ResolvesIf (if_complete (p.after_string && adds_to_string next) waiting) p.reader found

-- Whatever was read, it is that of the triples of these productions beside the earlier ones.
abbrev pub KeepsAll : {T : Type 0} → (List ℕ → List ResolvedTriple → T → Type 0) → List ℕ → Reader
    → List Production → T → T → Type 0
KeepsAll IsKept bytes reader produced old new =
    (start : Start) (base bytes' : List ℕ) (lexemes : List Lexeme) (productions : List Production)
    (meanings : List Meaning) → IsReading start base bytes' lexemes productions meanings reader
    → (handed : List ResolvedTriple) → IsKept bytes handed old
    → (more : List ResolvedTriple) × AreResolved meanings produced more
    × IsKept bytes (handed ++ more) new

-- the complete triples fit, or are too large at this position
abbrev pub IsSized : (List Lexeme → Type 0) → Start → List ℕ → List ℕ → ℕ → Option ℕ
    → Type 0
IsSized IsLarge start base bytes count None = FitsBelow IsLarge start base bytes count
IsSized IsLarge start base bytes count (Some at) =
    IsFirstFault IsLarge start base bytes (TooLarge at)

-- Whatever was read before, and where this comes next.
abbrev pub SizesUp : {T : Type 0} → Start → (List ℕ → List ResolvedTriple → T → Type 0)
    → (List ℕ → List ℕ → List Lexeme → Type 0) → List ℕ → Progress → Next → T → Option ℕ
    → Type 0
SizesUp start IsKept IsLarge bytes p next kept found =
    (base : List ℕ) (at : ℕ) (h : HasKept IsKept (IsLarge base bytes) start base bytes at p kept)
    → IsLexed start bytes at p.after_string next
    → IsSized (IsLarge base bytes) start base bytes (length h.lexemes) found
