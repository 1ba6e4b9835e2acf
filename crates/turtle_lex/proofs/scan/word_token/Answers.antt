use Rattle.turtle_lex.specs.declared.token.TokenKind.TheVariants.{A, True, False}
use Rattle.turtle_lex.proofs.WordLemmas.{word_found}
use Rattle.std.proofs.Common.{refl}
use Rattle.turtle_lex.proofs.scan.word_token.Goals as goal

pub returns-in-Some-clause-found : goal.returns-in-Some-clause-found
returns-in-Some-clause-found c = word_found A _ _ refl c.in-Some.ensures.matches

pub returns-in-Some-strip_word-clause-found : goal.returns-in-Some-strip_word-clause-found
returns-in-Some-strip_word-clause-found c = word_found True _ _ refl c.in-Some-strip_word.ensures.matches

pub returns-in-Some-strip_word-2-clause-found : goal.returns-in-Some-strip_word-2-clause-found
returns-in-Some-strip_word-2-clause-found c = word_found False _ _ refl c.in-Some-strip_word-2.ensures.matches
