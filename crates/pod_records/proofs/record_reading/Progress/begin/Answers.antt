use Rattle.std.proofs.Common.{[], refl}
use Rattle.pod_records.proofs.ReadSteps.{read_first, breaks_first}
use Rattle.pod_records.proofs.record_reading.Progress.begin.Goals as goal

pub returns-in-Some-clause-read : goal.returns-in-Some-clause-read
returns-in-Some-clause-read c = λ format.
    let is = rw c.in-Some.is at c.in_ok-replay.ensures.some in
    read_first format c.args.text.now c.in-Some.replay is

pub returns-in-None-clause-cause : goal.returns-in-None-clause-cause
returns-in-None-clause-cause c = λ format rest.
    let none = rw c.in-None.is at c.in_ok-replay.ensures.none in
    ([], breaks_first format rest c.args.text.now (none refl), refl)
