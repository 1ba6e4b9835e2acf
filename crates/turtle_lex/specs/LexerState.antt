-- A lexer as contracts see it.
use Rattle.std.specs.Prelude.{ℕ, List, Option, Some, None, Result, Ok, Err, refl}
use Rattle.std.specs.Coded.{Coded, code_by, coded×, coded_list, coded_ℕ}
use Rattle.turtle_lex.specs.declared.token.Token.{Token}
use Rattle.turtle_lex.specs.declared.token.LexFault.{LexFault}

-- the bytes, and the position that the lexer has come to
pub record LexerState : Type 0 where
  pub bytes : List ℕ
  pub from : ℕ

abbrev pub lexer_code : Coded LexerState
lexer_code = code_by (List ℕ × ℕ) (coded× (coded_list coded_ℕ) coded_ℕ) (λ l. (l.bytes, l.from))
    (λ p. record { bytes = p.0; from = p.1 }) (λ _. refl)

-- the position after an answer: a fault and the end leave it
abbrev pub position_after : Result (Option Token) LexFault → ℕ → ℕ
position_after (Ok (Some token)) from = token.to
position_after (Ok None) from = from
position_after (Err fault) from = from
