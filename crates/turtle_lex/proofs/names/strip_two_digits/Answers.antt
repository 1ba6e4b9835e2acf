use Rattle.std.specs.Char.{is_ascii_hexdigit}
use Rattle.turtle_lex.specs.Pattern.{one}
use Rattle.turtle_lex.proofs.Matching.{then_only, then_refused}
use Rattle.turtle_lex.proofs.names.strip_two_digits.Goals as goal

pub returns-in-Some-clause-matches : goal.returns-in-Some-clause-matches
returns-in-Some-clause-matches c = then_only (one is_ascii_hexdigit) (one is_ascii_hexdigit) _ _ _ c.in-Some.ensures.matches c.strip_one-in-Some.ensures.matches

pub returns-in-None-clause-matches : goal.returns-in-None-clause-matches
returns-in-None-clause-matches c = then_refused (one is_ascii_hexdigit) (one is_ascii_hexdigit) _ c.in-None.ensures.matches
