use Rattle.turtle_lex.specs.declared.token.TokenKind.TheVariants.{Base}
use Rattle.turtle_lex.proofs.WordLemmas.{word_found, no_word}
use Rattle.std.proofs.Common.{refl}
use Rattle.turtle_lex.proofs.scan.any_case_token.Goals as goal

pub returns-in-Some-strip_any_case-clause-found : goal.returns-in-Some-strip_any_case-clause-found
returns-in-Some-strip_any_case-clause-found c = word_found Base _ _ refl c.in-Some-strip_any_case.ensures

pub returns-in-None-strip_any_case-clause-none : goal.returns-in-None-strip_any_case-clause-none
returns-in-None-strip_any_case-clause-none c = no_word _ c.requires.no_a c.requires.no_true c.requires.no_false c.in-None.ensures c.in-None-strip_any_case.ensures
