-- What a lexer keeps.
use mathlib.Core.List.{IsSuffix}
use Rattle.std.specs.Prelude.{◌-◌, length}
use Rattle.turtle_lex.specs.declared.lexer.Lexer.TheInside.{Inside}
use Rattle.turtle_lex.specs.LexerState.{LexerState}
use Rattle.turtle_lex.specs.Names.{HasNoPrefixBefore}

abbrev pub lexer_view : Inside → LexerState
lexer_view a = record { bytes = a.bytes.now; from = length a.bytes.now - length a.text.now }

-- The text is a suffix of the bytes, and no prefix begins in it before `no_prefix_before`.
pub record IsLexer (a : Inside) : Type 0 where
  pub suffix : IsSuffix a.text.now a.bytes.now
  pub known : HasNoPrefixBefore a.text.now a.no_prefix_before.now
