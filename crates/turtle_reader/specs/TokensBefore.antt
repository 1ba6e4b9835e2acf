-- The tokens whose labels the unnamed nodes of a document don't get.
use Rattle.std.specs.Prelude.{ℕ, Bool, false, List, Option, Result}
use Rattle.turtle_lex.specs.declared.token.Token.{Token}
use Rattle.turtle_lex.specs.declared.token.LexFault.{LexFault}
use Rattle.turtle_lex.specs.Tokens.{AreTokensTo, IsAnswer, IsEnd}

-- These are all tokens of the bytes up to their end or to the first text without a token.
pub record AreTokensBefore (bytes : List ℕ) (tokens : List Token) : Type 0 where
  pub to : ℕ
  pub string : Bool
  pub last : Result (Option Token) LexFault
  pub tokens_are : AreTokensTo bytes 0 false tokens to string
  pub answer : IsAnswer bytes to last
  pub ends : IsEnd last

-- The bytes have such tokens.
abbrev pub HasTokensBefore : List ℕ → Type 0
HasTokensBefore bytes = (tokens : List Token) × AreTokensBefore bytes tokens
