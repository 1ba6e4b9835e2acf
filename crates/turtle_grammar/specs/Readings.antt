-- The machine as its caller sees it: which symbols it has read, and what they produced.
use Rattle.std.specs.Prelude.{ℕ, ◌+◌, ◌≤◌, ◌<◌, ◌≡◌, List, [], ◌∷◌, ◌++◌, length}
use Rattle.std.specs.Prelude.{Option, Some, None}
use Rattle.std.specs.List.{All}
use Rattle.turtle_lex.specs.declared.token.TokenKind.TheVariants.{LangTag, Carets}
use Rattle.turtle_grammar.specs.declared.symbol.Start.{Start}
use Rattle.turtle_grammar.specs.declared.symbol.Symbol.{Symbol}
use Rattle.turtle_grammar.specs.declared.symbol.Symbol.TheVariants.{Token}
use Rattle.turtle_grammar.specs.declared.production.SymbolicTriple.{SymbolicTriple}
use Rattle.turtle_grammar.specs.declared.production.Production.{Production}
use Rattle.turtle_grammar.specs.declared.production.Production.TheVariants.{Prefix, Base, Triple}
use Rattle.turtle_grammar.specs.declared.fault.Refusal.{Refusal}
use Rattle.turtle_grammar.specs.declared.fault.Refusal.TheVariants as refusal
use Rattle.turtle_grammar.specs.declared.machine.Machine.{Machine}
use Rattle.turtle_grammar.specs.declared.fault.TheConstants.{DEPTH_LIMIT}
use Rattle.turtle_grammar.specs.Derivations.{Derives, GoesOn, IsTooDeep, IsShallow}
use Rattle.turtle_grammar.specs.Derivations.{AreAllowed, braces_from, depth_from}
use Rattle.turtle_grammar.specs.Names.{Names, IsOther, GoalsName}
use Rattle.turtle_grammar.specs.Stacks.{run, at_point, with_produced, waiting_triple}

-- the index of the token at which a production ends
abbrev pub end_of : Production → ℕ
end_of (Prefix name iri) = iri
end_of (Base iri) = iri
end_of (Triple t) = t.end

-- the symbols don't go on with a String that precedes them
abbrev pub EndsString : List Symbol → Type 0
EndsString (Token LangTag ∷ symbols) = ⊥
EndsString (Token Carets ∷ symbols) = ⊥
EndsString symbols = Unit {0}

-- The symbols produce this, up to and with the last one: some continuation that adds nothing to a
-- last String has a derivation, which produces this first, and all else at later symbols.
pub record Produces (start : Start) (symbols : List Symbol) (productions : List Production)
    : Type 0 where
  pub rest : List Symbol
  pub later : List Production
  pub ends_string : EndsString rest
  pub derives : Derives start (symbols ++ rest) (productions ++ later)
  pub so_far : All (λ x. end_of x < length symbols) productions
  pub after : All (λ x. length symbols ≤ end_of x) later

-- The machine has read these symbols from the start symbol on, and they produced this; what follows
-- a last String may still add to it. Which stack it has then is its own affair (specs/Stacks): its
-- clauses and laws say what follows from this.
pub record HasRead (start : Start) (symbols : List Symbol) (productions : List Production)
    (machine : Machine) : Type 0 where
  pub start_is : machine.start ≡ start
  pub reached : run start symbols
      ≡ Some (at_point (with_produced productions machine.engine.point) machine.engine)
  pub braces : machine.braces ≡ braces_from 0 symbols
  pub depth : machine.depth ≡ depth_from 0 symbols
  pub low : machine.depth ≤ DEPTH_LIMIT
  pub allowed : AreAllowed start 0 symbols
  pub shallow : IsShallow symbols (length symbols)

-- what the last step of the machine produced
abbrev pub produced_by : Machine → List Production
produced_by machine = machine.engine.point.produced

-- Whatever was read before, the symbol was read after it.
abbrev pub ReadsOn : Symbol → Machine → Machine → Type 0
ReadsOn symbol old new =
    (start : Start) (symbols : List Symbol) (productions : List Production)
    → HasRead start symbols productions old
    → HasRead start (symbols ++ symbol ∷ []) (productions ++ produced_by new) new

-- what is unfinished doesn't name the token of this index
abbrev pub Avoids : ℕ → Machine → Type 0
Avoids index machine = GoalsName (IsOther index) machine.engine.goals

-- nothing is unfinished that names a token
abbrev pub NamesNothing : Machine → Type 0
NamesNothing machine = (index : ℕ) → Avoids index machine

-- A token that what is unfinished doesn't name, and that isn't this symbol's, is named neither by
-- what is unfinished after the symbol nor by its productions.
abbrev pub NamesOn : Symbol → Machine → Machine → Type 0
NamesOn symbol old new =
    (index : ℕ) (start : Start) (symbols : List Symbol) (productions : List Production)
    → HasRead start symbols productions old → IsOther index (length symbols) → Avoids index old
    → Avoids index new × All (Names (IsOther index)) (produced_by new)

-- nor by the triple of a String that waits
abbrev pub WaitingNames : SymbolicTriple → Machine → Type 0
WaitingNames waiting machine =
    (index : ℕ) → Avoids index machine → Names (IsOther index) (Triple waiting)

-- whatever was read, it doesn't go on with this symbol
abbrev pub StopsAt : Symbol → Machine → Type 0
StopsAt symbol machine =
    (start : Start) (symbols : List Symbol) (productions : List Production)
    → HasRead start symbols productions machine
    → GoesOn start (symbols ++ symbol ∷ []) → ⊥

-- whatever was read, it goes on with this symbol, which opens a bracket more than the limit
abbrev pub IsTooDeepAt : Symbol → Machine → Type 0
IsTooDeepAt symbol machine =
    (start : Start) (symbols : List Symbol) (productions : List Production)
    → HasRead start symbols productions machine
    → GoesOn start (symbols ++ symbol ∷ []) × IsTooDeep (symbols ++ symbol ∷ []) (length symbols)

-- what a refusal of this symbol says of the machine before
abbrev pub IsRefused : Refusal → Symbol → Machine → Type 0
IsRefused refusal.Grammar symbol machine = StopsAt symbol machine
IsRefused refusal.Depth symbol machine = IsTooDeepAt symbol machine
IsRefused refusal.NoMemory symbol machine = Unit {0}

-- whatever was read has a derivation, which produces what was produced
abbrev pub IsDerived : Machine → Type 0
IsDerived machine =
    (start : Start) (symbols : List Symbol) (productions : List Production)
    → HasRead start symbols productions machine → Derives start symbols productions

-- whatever was read has no derivation
abbrev pub IsUnfinished : Machine → Type 0
IsUnfinished machine =
    (start : Start) (symbols : List Symbol) (productions others : List Production)
    → HasRead start symbols productions machine → Derives start symbols others → ⊥

abbrev pub waiting_productions : Option SymbolicTriple → List Production
waiting_productions None = []
waiting_productions (Some t) = Triple t ∷ []

-- what was read produces this beside what was produced, where nothing follows a last String
abbrev pub Waits : Option SymbolicTriple → Machine → Type 0
Waits waiting machine =
    (start : Start) (symbols : List Symbol) (productions : List Production)
    → HasRead start symbols productions machine
    → Produces start symbols (productions ++ waiting_productions waiting)

-- the last symbol is a String, which waits for what follows it
abbrev pub HasString : Machine → Type 0
HasString machine =
    (triple : SymbolicTriple) × (waiting_triple machine.engine ≡ Some triple)

-- there is a triple
abbrev pub IsTriple : Option SymbolicTriple → Type 0
IsTriple found = (triple : SymbolicTriple) × (found ≡ Some triple)
