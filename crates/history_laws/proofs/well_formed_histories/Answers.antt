use Rattle.history_laws.proofs.Histories.{each_pod, world_history}
use Rattle.history_laws.proofs.well_formed_histories.Goals as goal

pub returns-clause-worlds : goal.returns-clause-worlds
returns-clause-worlds g c = λ asking history numbers events world is_history run.
    world_history c.applies.ensures.applies (g.C.Clock.may_give c.args.clock.now) asking history numbers events world is_history run

pub returns-clause-pods : goal.returns-clause-pods
returns-clause-pods g c = each_pod
