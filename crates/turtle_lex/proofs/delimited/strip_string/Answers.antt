use Rattle.std.proofs.Common.{Some, None}
use Rattle.turtle_lex.proofs.DelimitedLemmas.{long_matches, short_matches, no_string, quotes_1, quotes_3}
use Rattle.turtle_lex.proofs.delimited.strip_string.Goals as goal

pub returns-in-Some-clause-matches : goal.returns-in-Some-clause-matches
returns-in-Some-clause-matches c =
    long_matches c.args.quote _ c.in-Some.rest.now _ (quotes_3 c.args.quote _ _ (Some c.in-Some.rest.now) c.byte-byte.ensures c.in-Some.ensures.matches) c.strip_inside.ensures.matches

pub returns-in-Some-strip_word-clause-matches : goal.returns-in-Some-strip_word-clause-matches
returns-in-Some-strip_word-clause-matches c =
    short_matches c.args.quote _ c.in-Some-strip_word.rest.now _ (quotes_3 c.args.quote _ _ None c.byte-byte.ensures c.in-None.ensures.matches)
    (quotes_1 c.args.quote _ _ (Some c.in-Some-strip_word.rest.now) c.byte-byte.ensures c.in-Some-strip_word.ensures.matches) c.strip_inside-in-Some-strip_word.ensures.matches

pub returns-in-None-strip_word-clause-matches : goal.returns-in-None-strip_word-clause-matches
returns-in-None-strip_word-clause-matches c =
    no_string c.args.quote _ (quotes_3 c.args.quote _ _ None c.byte-byte.ensures c.in-None.ensures.matches)
    (quotes_1 c.args.quote _ _ None c.byte-byte.ensures c.in-None-strip_word.ensures.matches)
