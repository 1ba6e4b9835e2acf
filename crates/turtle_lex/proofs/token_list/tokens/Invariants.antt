use Rattle.std.proofs.Common.{◌≡◌, ◌-◌, false, length}
use Rattle.turtle_lex.specs.Tokens.{AreTokensTo}
use Rattle.turtle_lex.proofs.token_list.tokens.Given as goal

abbrev pub invariant-loop-list : goal.invariant-loop-list
invariant-loop-list l = record {
  bytes : l.lexer.bytes ≡ l.bytes;
  listed : AreTokensTo l.bytes 0 false l.list.items l.lexer.from l.after_string;
}

abbrev pub decreases-loop-list : goal.decreases-loop-list
decreases-loop-list l = length l.bytes - l.lexer.from
