use Rattle.std.proofs.Common.{refl}
use Rattle.pod_records.proofs.ReadSteps.{applies_alike, read_more}
use Rattle.pod_records.proofs.record_reading.read_next.Goals as goal

pub returns-in-Some-2-clause-some : goal.returns-in-Some-2-clause-some
returns-in-Some-2-clause-some c = λ bodies last so_far.
    let is = rw c.in-Some.is at c.in_ok-entry.ensures.some in
    let applies = rw c.in-Some-2.is at c.in_ok-after-in-Some.ensures.applies in
    let after = rw c.in-Some-2.is at c.in_ok-after-in-Some.ensures.after in
    read_more c.args.format bodies c.args.text.now c.args.replay last c.in-Some.entry c.in-Some-2.after so_far is applies after

pub returns-in-Some-clause-none : goal.returns-in-Some-clause-none
returns-in-Some-clause-none c = λ _ entry is_entry applies.
    let read = rw c.in-Some.is at c.in_ok-entry.ensures.some in
    let none = rw c.in-None-2.is at c.in_ok-after-in-Some.ensures.none in
    none refl (applies_alike c.args.replay.pod c.args.replay.next c.in-Some.entry entry (read.only entry is_entry) applies)
