use Rattle.pod_follow.proofs.Texts.{no_other, starts}
use Rattle.pod_follow.proofs.follower.Follower.start.Goals as goal

pub returns-in-Ok-clause-started : goal.returns-in-Ok-clause-started
returns-in-Ok-clause-started c =
    starts c.args.snapshot.now c.in-Ok.snapshot c.in-Ok.ensures.form c.in-Ok.ensures.storable c.in-Ok.ensures.only c.start_with.result c.start_with.ensures.pod c.start_with.ensures.next c.start_with.ensures.well_formed

pub returns-in-Ok-clause-refused : goal.returns-in-Ok-clause-refused
returns-in-Ok-clause-refused c = λ e. no_other c.args.snapshot.now c.in-Ok.snapshot c.in-Ok.ensures.form c.in-Ok.ensures.storable c.in-Ok.ensures.only (c.start_with.ensures.refused e)
