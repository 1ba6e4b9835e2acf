use Rattle.std.proofs.Common.{refl}
use Rattle.pod_records.proofs.ReadSteps.{breaks_next}
use Rattle.pod_records.proofs.record_reading.Progress.after.Goals as goal

pub returns-in-None-clause-cause : goal.returns-in-None-clause-cause
returns-in-None-clause-cause c = λ bodies rest so_far at.
    let none = rw c.in-None.is at c.in_ok-replay.ensures.none in
    (bodies, breaks_next c.args.format bodies rest c.args.text.now c.args.self.replay c.args.self.last so_far (none refl), at)
