-- What a list of symbols derives, and which of them opens a bracket too many.
use Rattle.std.specs.Prelude.{ℕ, ◌+◌, ◌-◌, ◌≤◌, ◌<◌, ◌≡◌, List, [], ◌∷◌, ◌++◌, length, take}
use Rattle.std.specs.Prelude.{Bool, true, false, nat_lt}
use Rattle.turtle_lex.specs.declared.token.TokenKind.TheVariants.{OpenSquare, CloseSquare}
use Rattle.turtle_lex.specs.declared.token.TokenKind.TheVariants.{OpenRound, CloseRound}
use Rattle.turtle_lex.specs.declared.token.TokenKind.TheVariants.{OpenBrace, CloseBrace, Variable}
use Rattle.turtle_grammar.specs.declared.symbol.Start.{Start}
use Rattle.turtle_grammar.specs.declared.symbol.Start.TheVariants.{Document, Patch, Update}
use Rattle.turtle_grammar.specs.declared.symbol.Symbol.{Symbol}
use Rattle.turtle_grammar.specs.declared.symbol.Symbol.TheVariants.{Token}
use Rattle.turtle_grammar.specs.declared.production.Production.{Production}
use Rattle.turtle_grammar.specs.declared.fault.TheConstants.{DEPTH_LIMIT}
use Rattle.turtle_grammar.specs.Trees.{Statement}
use Rattle.turtle_grammar.specs.Trees.{Update as UpdateTree}
use Rattle.turtle_grammar.specs.TreeSymbols.{document_symbols, update_symbols}
use Rattle.turtle_grammar.specs.Productions.{Point, start_point, document_end, update_end}

-- the trees of a start symbol
abbrev pub Tree : Start → Type 0
Tree Update = UpdateTree
Tree start = List Statement

abbrev pub tree_symbols : (start : Start) → Tree start → List Symbol
tree_symbols Document tree = document_symbols tree []
tree_symbols Patch tree = document_symbols tree []
tree_symbols Update tree = update_symbols tree []

abbrev pub tree_end : (start : Start) → Tree start → Point
tree_end Document tree = document_end tree start_point
tree_end Patch tree = document_end tree start_point
tree_end Update tree = update_end tree start_point

-- how many braces are open after the symbol, where n are open before it
abbrev pub braces_after : ℕ → Symbol → ℕ
braces_after n (Token OpenBrace) = n + 1
braces_after n (Token CloseBrace) = n - 1
braces_after n symbol = n

-- Whether the language has this symbol where n braces are open. Turtle has neither braces nor
-- variables. In a patch variables stand in formulas. An update has no variables and no formula in a
-- formula, and its words stand outside formulas.
abbrev pub has_brace : Start → ℕ → Bool
has_brace Document n = false
has_brace Patch n = true
has_brace Update n = nat_lt n 1

abbrev pub has_variable : Start → ℕ → Bool
has_variable Patch n = nat_lt 0 n
has_variable start n = false

abbrev pub has_word : Start → ℕ → Bool
has_word Update n = nat_lt n 1
has_word start n = false

abbrev pub is_allowed : Start → ℕ → Symbol → Bool
is_allowed start n (Token OpenBrace) = has_brace start n
is_allowed start n (Token Variable) = has_variable start n
is_allowed start n (Token kind) = true
is_allowed start n word = has_word start n

abbrev pub AreAllowed : Start → ℕ → List Symbol → Type 0
AreAllowed start n [] = Unit {0}
AreAllowed start n (symbol ∷ symbols) =
    (is_allowed start n symbol ≡ true) × AreAllowed start (braces_after n symbol) symbols

-- The symbols are those of a tree that produces this.
pub record Derives (start : Start) (symbols : List Symbol) (productions : List Production)
    : Type 0 where
  pub tree : Tree start
  pub symbols_are : tree_symbols start tree ≡ symbols
  pub produced : (tree_end start tree).produced ≡ productions
  pub allowed : AreAllowed start 0 symbols

-- Some list of symbols that begins with these has a derivation.
pub record GoesOn (start : Start) (symbols : List Symbol) : Type 0 where
  pub rest : List Symbol
  pub productions : List Production
  pub derives : Derives start (symbols ++ rest) productions

-- how many brackets are open after the symbol, where d are open before it
abbrev pub depth_after : ℕ → Symbol → ℕ
depth_after d (Token OpenSquare) = d + 1
depth_after d (Token OpenRound) = d + 1
depth_after d (Token OpenBrace) = d + 1
depth_after d (Token CloseSquare) = d - 1
depth_after d (Token CloseRound) = d - 1
depth_after d (Token CloseBrace) = d - 1
depth_after d symbol = d

-- how many brackets and how many braces are open after the symbols
abbrev pub depth_from : ℕ → List Symbol → ℕ
depth_from d [] = d
depth_from d (symbol ∷ symbols) = depth_from (depth_after d symbol) symbols

abbrev pub braces_from : ℕ → List Symbol → ℕ
braces_from n [] = n
braces_from n (symbol ∷ symbols) = braces_from (braces_after n symbol) symbols

-- the symbol at k opens a bracket more than the limit
abbrev pub IsTooDeep : List Symbol → ℕ → Type 0
IsTooDeep symbols k =
    (k < length symbols) × (DEPTH_LIMIT < depth_from 0 (take (k + 1) symbols))

-- no symbol before k is too deep
abbrev pub IsShallow : List Symbol → ℕ → Type 0
IsShallow symbols k = (j : ℕ) → j < k → IsTooDeep symbols j → ⊥
