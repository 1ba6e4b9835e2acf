use Rattle.std.proofs.Common.{sym, subst}
use Rattle.turtle_lex.specs.declared.token.TokenKind.{TokenKind}
use Rattle.turtle_lex.specs.declared.token_groups.Group.TheVariants.{Dots}
use Rattle.turtle_lex.specs.Groups.{in_group, IsTokenOfGroup}
use Rattle.turtle_lex.proofs.TokenLemmas.{pointed_token, dot_token, no_dot_token}
use Rattle.turtle_lex.proofs.scan.dot_token.Goals as goal

pub returns-in-Some-clause-found : goal.returns-in-Some-clause-found
returns-in-Some-clause-found c = subst (λ (k : TokenKind). IsTokenOfGroup (in_group Dots) k c.args.text.now c.in-Some.rest.now) (sym c.kind_of.ensures) (pointed_token _ _ c.in-Some.number c.in-Some.ensures.found)

pub returns-in-Some-strip_word-clause-found : goal.returns-in-Some-strip_word-clause-found
returns-in-Some-strip_word-clause-found c = dot_token _ _ c.in-None.ensures.none c.in-Some-strip_word.ensures.matches

pub returns-in-None-strip_word-clause-none : goal.returns-in-None-strip_word-clause-none
returns-in-None-strip_word-clause-none c = no_dot_token _ c.in-None.ensures.none c.in-None-strip_word.ensures.matches
