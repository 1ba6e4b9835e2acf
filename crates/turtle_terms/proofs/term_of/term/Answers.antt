use Rattle.std.proofs.Common.{Ok, Err}
use Rattle.std.proofs.lemmas.Result.{IfOk-weaker, IfErr-weaker}
use Rattle.turtle_terms.proofs.Meanings.{one_term}
use Rattle.turtle_terms.proofs.term_of.term.Goals as goal

pub returns-clause-only : goal.returns-clause-only
returns-clause-only c =
    IfOk-weaker c.meaning.result _ _
    (λ term h other k. one_term c.args.base.now c.args.scope.now c.args.bytes.now c.args.token.now other (Ok term) k h) c.meaning.ensures.term

pub returns-clause-only_fault : goal.returns-clause-only_fault
returns-clause-only_fault c =
    IfErr-weaker c.meaning.result _ _
    (λ fault h is other k. one_term c.args.base.now c.args.scope.now c.args.bytes.now c.args.token.now other (Err fault) k (h is)) c.meaning.ensures.fault
