use Rattle.std.proofs.Common.{sym}
use Rattle.std.proofs.lemmas.Bool.{OnTrue_from, OnFalse_from, OnTrue_at, OnFalse_at}
use Rattle.turtle_grammar.proofs.NamedLemmas.{stack_other, stack_not_in}
use Rattle.turtle_grammar.proofs.named.is_in_stack.Goals as goal

pub returns-clause-found : goal.returns-clause-found
returns-clause-found c =
    OnTrue_from c.is_in_any.result _ (λ e names. OnTrue_at e c.is_in_any.ensures.found (stack_not_in c.args.index c.args.stack.now names))

pub returns-clause-none : goal.returns-clause-none
returns-clause-none c =
    OnFalse_from c.is_in_any.result _ (λ e. stack_other c.args.index c.args.stack.now (OnFalse_at e c.is_in_any.ensures.none))
