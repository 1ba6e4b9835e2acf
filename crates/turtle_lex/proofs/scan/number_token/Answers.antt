use Rattle.std.proofs.Common.{sym, subst}
use Rattle.turtle_lex.specs.declared.token.TokenKind.{TokenKind}
use Rattle.turtle_lex.specs.declared.token_groups.Group.TheVariants.{Numbers}
use Rattle.turtle_lex.specs.Groups.{in_group, IsTokenOfGroup}
use Rattle.turtle_lex.proofs.TokenLemmas.{number_token, no_number_token}
use Rattle.turtle_lex.proofs.scan.number_token.Goals as goal

pub returns-in-Some-clause-found : goal.returns-in-Some-clause-found
returns-in-Some-clause-found c = subst (λ (k : TokenKind). IsTokenOfGroup (in_group Numbers) k c.args.text.now c.in-Some.rest.now) (sym c.kind_of.ensures) (number_token _ _ c.in-Some.number c.in-Some.ensures.found)

pub returns-in-None-clause-none : goal.returns-in-None-clause-none
returns-in-None-clause-none c = no_number_token _ c.in-None.ensures.none
