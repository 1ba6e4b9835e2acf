use Rattle.std.proofs.Common.{refl}
use Rattle.pod_keeper.proofs.NewStore.{new_stands, new_store}
use Rattle.pod_keeper.proofs.keeper.Keeper.init.Goals as goal

pub returns-in-Ok-init-clause-stands : goal.returns-in-Ok-init-clause-stands
returns-in-Ok-init-clause-stands g c = λ c' d here here_2. new_stands c.args.base c.args.owner c.args.moment c.in-Ok.record c.in-Ok-init.pair.active c.in-Ok-init.pair.journal.format c.in-Ok-init.pair.journal.epoch c' d c.in-Ok.ensures c.in-Ok-init.ensures.format
    (c.clean_stands.ensures _ c.in-Ok-init.ensures.clean c.in-Ok-init.ensures.passed c' d here here_2)

pub returns-in-Ok-init-clause-begun : goal.returns-in-Ok-init-clause-begun
returns-in-Ok-init-clause-begun g c = λ c' d here here_2. new_store c.args.base c.args.owner c.args.moment c.in-Ok.record c.in-Ok-init.pair c' d c.in-Ok.ensures
    c.in-Ok-init.ensures.active c.in-Ok-init.ensures.format c.in-Ok-init.ensures.epoch
    (c.clean_stands.ensures _ c.in-Ok-init.ensures.clean c.in-Ok-init.ensures.passed c' d here here_2) (c.in-Ok-init.ensures.second d here_2)

pub returns-in-Ok-clause-counted : goal.returns-in-Ok-clause-counted
returns-in-Ok-clause-counted g c = λ _. c.in-Err-init.ensures.faults.failed refl
