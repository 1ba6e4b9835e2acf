-- Laws of derivations and of reading, for the proofs of the crates above.
use Rattle.std.specs.Prelude.{ℕ, ◌≡◌, List, [], ◌++◌, length, take}
use Rattle.turtle_grammar.specs.declared.symbol.Start.{Start}
use Rattle.turtle_grammar.specs.declared.symbol.Symbol.{Symbol}
use Rattle.turtle_grammar.specs.declared.production.Production.{Production}
use Rattle.turtle_grammar.specs.declared.machine.Machine.{Machine}
use Rattle.turtle_grammar.specs.Derivations.{Tree, tree_symbols, Derives, GoesOn, IsShallow}
use Rattle.turtle_grammar.specs.Readings.{HasRead, Produces, NamesNothing}

-- Different trees have different symbols.
abbrev pub IsUnambiguous : Type 0
IsUnambiguous = (start : Start) (these those : Tree start)
    → tree_symbols start these ≡ tree_symbols start those → these ≡ those

-- the derivation of a list of symbols has one tree
abbrev pub HasOneTree : Type 0
HasOneTree =
    (start : Start) (symbols : List Symbol) (these those : List Production)
    (a : Derives start symbols these) (b : Derives start symbols those) → a.tree ≡ b.tree

-- the derivation with a tree has one list of symbols, and produces one list
abbrev pub HasOneList : Type 0
HasOneList =
    (start : Start) (one other : List Symbol) (these those : List Production)
    (a : Derives start one these) (b : Derives start other those) → a.tree ≡ b.tree
    → (one ≡ other) × (these ≡ those)

-- what a list of symbols produces is one list
abbrev pub HasOneDerivation : Type 0
HasOneDerivation =
    (start : Start) (symbols : List Symbol) (these those : List Production)
    → Derives start symbols these → Derives start symbols those → these ≡ those

-- what a list of symbols produces up to its last is one list, whatever follows
abbrev pub HasOneProduce : Type 0
HasOneProduce =
    (start : Start) (symbols : List Symbol) (these those : List Production)
    → Produces start symbols these → Produces start symbols those → these ≡ those

-- each prefix of what goes on goes on
abbrev pub PrefixesGoOn : Type 0
PrefixesGoOn =
    (start : Start) (symbols rest : List Symbol)
    → GoesOn start (symbols ++ rest) → GoesOn start symbols

-- what is derived goes on at each of its prefixes
abbrev pub DerivedGoesOn : Type 0
DerivedGoesOn =
    (start : Start) (symbols : List Symbol) (productions : List Production) (k : ℕ)
    → Derives start symbols productions → GoesOn start (take k symbols)

-- what the machine has read goes on
abbrev pub ReadGoesOn : Type 0
ReadGoesOn =
    (start : Start) (symbols : List Symbol) (productions : List Production) (machine : Machine)
    → HasRead start symbols productions machine → GoesOn start symbols

-- and none of it is too deep
abbrev pub ReadIsShallow : Type 0
ReadIsShallow =
    (start : Start) (symbols : List Symbol) (productions : List Production) (machine : Machine)
    → HasRead start symbols productions machine → IsShallow symbols (length symbols)

-- where nothing has been read, nothing is unfinished
abbrev pub NothingNamesNothing : Type 0
NothingNamesNothing =
    (start : Start) (productions : List Production) (machine : Machine)
    → HasRead start [] productions machine → NamesNothing machine
