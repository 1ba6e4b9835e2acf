-- Which fault of a text is told, of those of its lexemes and of its size.
--
-- A fault has an index: the number of lexemes before it. Faults of a lesser index have a lesser
-- position.
use Rattle.std.specs.Prelude.{◌≡◌, ◌<◌, ◌≤◌, ◌⊎◌, ℕ, List, [], ◌∷◌, ◌++◌, length, Some, Ok}
use Rattle.turtle_grammar.specs.declared.symbol.Start.{Start}
use Rattle.turtle_terms.specs.declared.fault.TurtleKind.TheVariants as Why
use Rattle.turtle_terms.specs.declared.fault.TurtleFault.{TurtleFault}
use Rattle.turtle_terms.specs.declared.fault.TurtleFault.TheVariants.{Bad, TooLarge, NoMemory}
use Rattle.turtle_reader.specs.declared.lexeme.Lexeme.{Lexeme}
use Rattle.turtle_reader.specs.Faults.{Next, IsFaultAfter, rank}
use Rattle.turtle_reader.specs.Texts.{AreFirst}

-- a language without a limit that is judged as it is read
abbrev pub NeverLarge : List Lexeme → Type 0
NeverLarge lexemes = ⊥

-- With the next lexeme the complete triples pass the limit.
abbrev pub IsLargeAt : (List Lexeme → Type 0) → List Lexeme → Next → ℕ → Type 0
IsLargeAt IsLarge before (Ok (Some lexeme)) at =
    (at ≡ lexeme.from) × IsLarge (before ++ lexeme ∷ [])
IsLargeAt IsLarge before next at = ⊥

-- The fault is that of what comes after these lexemes. `IsLarge` says of the first lexemes whether
-- the triples that are complete with them are too large.
abbrev pub IsFaultAt : (List Lexeme → Type 0) → Start → List ℕ → List ℕ → List Lexeme
    → Next → TurtleFault → Type 0
IsFaultAt IsLarge start base bytes before next (Bad at kind) =
    IsFaultAfter start base bytes before next (Bad at kind)
IsFaultAt IsLarge start base bytes before next (TooLarge at) =
    IsLargeAt IsLarge before next at
IsFaultAt IsLarge start base bytes before next NoMemory = ⊥

-- The bytes have this fault at this index, among others.
abbrev pub HasFaultAt : (List Lexeme → Type 0) → Start → List ℕ → List ℕ → ℕ → TurtleFault
    → Type 0
HasFaultAt IsLarge start base bytes index fault = (before : List Lexeme) × (next : Next)
    × AreFirst start bytes before next × (length before ≡ index)
    × IsFaultAt IsLarge start base bytes before next fault

abbrev pub HasNoFault : (List Lexeme → Type 0) → Start → List ℕ → List ℕ → Type 0
HasNoFault IsLarge start base bytes =
    (index : ℕ) (fault : TurtleFault) → HasFaultAt IsLarge start base bytes index fault → ⊥

-- the position of a fault
abbrev pub place_of : TurtleFault → ℕ
place_of (Bad at kind) = at
place_of (TooLarge at) = at
place_of NoMemory = 0

-- The fault that is told: none has a lesser index, and none of this index a lesser rank.
pub record IsFirstFault (IsLarge : List Lexeme → Type 0) (start : Start)
    (base bytes : List ℕ) (fault : TurtleFault) : Type 0 where
  pub index : ℕ
  pub has : HasFaultAt IsLarge start base bytes index fault
  pub first : (other : ℕ) (one : TurtleFault) → HasFaultAt IsLarge start base bytes other one
      → (index < other) ⊎ ((index ≡ other) × (rank fault ≤ rank one))

-- no bracket is too deep
abbrev pub IsShallow : (List Lexeme → Type 0) → Start → List ℕ → List ℕ → Type 0
IsShallow IsLarge start base bytes = (index at : ℕ)
    → HasFaultAt IsLarge start base bytes index (Bad at Why.Depth) → ⊥

-- the complete lexemes are nowhere too large
abbrev pub IsNowhereLarge : (List Lexeme → Type 0) → Start → List ℕ → List ℕ → Type 0
IsNowhereLarge IsLarge start base bytes = (index at : ℕ)
    → HasFaultAt IsLarge start base bytes index (TooLarge at) → ⊥
