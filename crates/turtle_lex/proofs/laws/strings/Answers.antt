use Rattle.turtle_lex.proofs.TextLemmas.{string_starts_with_quote, three_quotes_are_long, fewer_quotes_are_short}
use Rattle.turtle_lex.proofs.laws.strings.Goals as goal

pub returns-clause-quote : goal.returns-clause-quote
returns-clause-quote c = string_starts_with_quote

pub returns-clause-long : goal.returns-clause-long
returns-clause-long c = three_quotes_are_long

pub returns-clause-short : goal.returns-clause-short
returns-clause-short c = fewer_quotes_are_short
