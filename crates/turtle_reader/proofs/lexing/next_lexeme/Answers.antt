use Rattle.std.proofs.Common.{rules, Some, Ok}
use Rattle.turtle_reader.specs.Texts.{IsLexed}
use Rattle.turtle_reader.proofs.OneLexeme.{placed}
use Rattle.turtle_reader.proofs.lexing.next_lexeme.Goals as goal

pub returns-in-Ok-Some-clause-of_bytes : goal.returns-in-Ok-Some-clause-of_bytes
returns-in-Ok-Some-clause-of_bytes c =
    let from = c.args.lexer.now.from in let bytes = c.args.bytes.now in
    let lexed : IsLexed c.args.start bytes from c.args.after_string (Ok (Some c.of.result)) = search rules in
    let is = placed c.args.start bytes from c.args.after_string c.of.result lexed in is.of_bytes
