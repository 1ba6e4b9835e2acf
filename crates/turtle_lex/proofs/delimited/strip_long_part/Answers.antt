use Rattle.std.proofs.Common.{Some, None}
use Rattle.turtle_lex.proofs.DelimitedLemmas.{long_no_backslash, two_quotes, one_quote, no_quote, quotes_1, quotes_2}
use Rattle.turtle_lex.proofs.delimited.strip_long_part.Goals as goal

pub strip_char-requires : goal.strip_char-requires
strip_char-requires c = long_no_backslash c.args.quote

pub strip_char-requires-in-Some-strip_word : goal.strip_char-requires-in-Some-strip_word
strip_char-requires-in-Some-strip_word c = long_no_backslash c.args.quote

pub strip_char-requires-in-None-strip_word : goal.strip_char-requires-in-None-strip_word
strip_char-requires-in-None-strip_word c = long_no_backslash c.args.quote

pub returns-in-Some-clause-matches : goal.returns-in-Some-clause-matches
returns-in-Some-clause-matches c =
    two_quotes c.args.quote _ c.in-Some.rest.now _ (quotes_2 c.args.quote _ _ (Some c.in-Some.rest.now) c.byte-byte.ensures c.in-Some.ensures.matches)
    c.strip_char.ensures.matches

pub returns-in-Some-strip_word-clause-matches : goal.returns-in-Some-strip_word-clause-matches
returns-in-Some-strip_word-clause-matches c =
    one_quote c.args.quote _ c.in-Some-strip_word.rest.now _ (quotes_2 c.args.quote _ _ None c.byte-byte.ensures c.in-None.ensures.matches)
    (quotes_1 c.args.quote _ _ (Some c.in-Some-strip_word.rest.now) c.byte-byte.ensures c.in-Some-strip_word.ensures.matches)
    c.strip_char-in-Some-strip_word.ensures.matches

pub returns-in-None-strip_word-clause-matches : goal.returns-in-None-strip_word-clause-matches
returns-in-None-strip_word-clause-matches c =
    no_quote c.args.quote _ _ (quotes_2 c.args.quote _ _ None c.byte-byte.ensures c.in-None.ensures.matches)
    (quotes_1 c.args.quote _ _ None c.byte-byte.ensures c.in-None-strip_word.ensures.matches)
    c.strip_char-in-None-strip_word.ensures.matches
