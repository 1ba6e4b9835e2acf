use Rattle.std.proofs.Common.{refl}
use Rattle.pod_responses.specs.Allow.{taken_names}
use Rattle.pod_responses.proofs.allow_and_accept.taken_names.Goals as goal

pub returns-in-true-true : goal.returns-in-true-true
unfolding taken_names
returns-in-true-true c = rw (c.in-true-true.is-0, c.in-true-true.is-1) refl

pub returns-in-true-false : goal.returns-in-true-false
unfolding taken_names
returns-in-true-false c = rw (c.in-true-false.is-0, c.in-true-false.is-1) refl

pub returns-in-false-true : goal.returns-in-false-true
unfolding taken_names
returns-in-false-true c = rw (c.in-false-true.is-0, c.in-false-true.is-1) refl

pub returns-in-false-false : goal.returns-in-false-false
unfolding taken_names
returns-in-false-false c = rw (c.in-false-false.is-0, c.in-false-false.is-1) refl
