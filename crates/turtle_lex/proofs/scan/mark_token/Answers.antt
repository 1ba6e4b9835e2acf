use Rattle.std.proofs.Common.{sym, subst}
use Rattle.turtle_lex.specs.declared.token.TokenKind.{TokenKind}
use Rattle.turtle_lex.specs.declared.token_groups.Group.TheVariants.{Marks}
use Rattle.turtle_lex.specs.Groups.{in_group, IsTokenOfGroup}
use Rattle.turtle_lex.proofs.TokenLemmas.{mark_token, no_mark_token}
use Rattle.turtle_lex.proofs.scan.mark_token.Goals as goal

pub returns-in-Some-clause-found : goal.returns-in-Some-clause-found
returns-in-Some-clause-found c = subst (λ (k : TokenKind). IsTokenOfGroup (in_group (Marks c.args.mark)) k c.args.text.now c.in-Some.rest.now) (sym c.kind.ensures) (mark_token c.args.mark _ _ _ c.spelling.ensures c.in-Some.ensures.matches)

pub returns-in-None-clause-none : goal.returns-in-None-clause-none
returns-in-None-clause-none c = no_mark_token c.args.mark _ _ c.spelling.ensures c.in-None.ensures.matches
