use Rattle.std.proofs.Common.{rules}
use Rattle.turtle_lex.proofs.GroupLemmas.{token_found, token_none, no_token_if_empty}
use Rattle.turtle_lex.proofs.scan.token_at.Goals as goal

pub returns-then-is_empty-clause-none : goal.returns-then-is_empty-clause-none
returns-then-is_empty-clause-none c = no_token_if_empty c.args.text.now (search rules)

pub returns-clause-found : goal.returns-clause-found
returns-clause-found c = token_found c.args.text.now c.group_of.result c.token_of.result (λ t. t.0) (λ t. t.1.now) c.group_of.ensures c.token_of.ensures.found

pub returns-clause-none : goal.returns-clause-none
returns-clause-none c = token_none c.args.text.now c.group_of.result c.token_of.result c.group_of.ensures c.token_of.ensures.none
