-- The answer where no token begins.
use Rattle.std.specs.Prelude.{◌≡◌, ℕ, ◌-◌, List, [], length, Option, Some, None, Result, Ok, Err}
use Rattle.turtle_lex.specs.declared.token.Token.{Token}
use Rattle.turtle_lex.specs.declared.token.LexFault.{LexFault}
use Rattle.turtle_lex.specs.declared.token.LexFault.TheVariants.{NotText, BadToken, NoMemory}
use Rattle.turtle_lex.specs.Pattern.{HasNoFirstChar}

-- the end of the bytes, or a fault at the position of the rest
abbrev pub IsAnswerWithoutToken : List ℕ → List ℕ → Result (Option Token) LexFault → Type 0
IsAnswerWithoutToken bytes rest (Ok (Some token)) = ⊥
IsAnswerWithoutToken bytes rest (Ok None) = rest ≡ []
IsAnswerWithoutToken bytes rest (Err (NotText at)) = (at ≡ length bytes - length rest)
    × HasNoFirstChar rest × (rest ≡ [] → ⊥)
IsAnswerWithoutToken bytes rest (Err (BadToken at)) = (at ≡ length bytes - length rest)
    × (HasNoFirstChar rest → ⊥)
IsAnswerWithoutToken bytes rest (Err NoMemory) = ⊥
