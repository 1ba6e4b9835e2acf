use Rattle.std.proofs.Common.{true, false}
use Rattle.turtle_reader.proofs.Walking.{judged, sized_first}
use Rattle.turtle_reader.proofs.text_walk.too_large.Goals as goal

pub returns-in-None-clause-sizes : goal.returns-in-None-clause-sizes
returns-in-None-clause-sizes g c = λ base at h lexed.
    let bytes = c.args.bytes.now in sized_first (g.L.Language.is_large base bytes) g.L.Language.symbol base bytes h c.args.next.now lexed c.in-None.is

pub returns-then-branch-clause-sizes : goal.returns-then-branch-clause-sizes
returns-then-branch-clause-sizes g c = λ base at h lexed.
    judged g.L.Language.is_large h c.args.next.now lexed c.in-Some.at c.in-Some.is c.in_ok-waiting-in-Some.waiting c.in_ok-waiting-in-Some.ensures
    c.in_ok-judge-in-Some.field-0 c.in_ok-judge-in-Some.ensures.judges true c.if-branch.true

pub returns-else-branch-clause-sizes : goal.returns-else-branch-clause-sizes
returns-else-branch-clause-sizes g c = λ base at h lexed.
    judged g.L.Language.is_large h c.args.next.now lexed c.in-Some.at c.in-Some.is c.in_ok-waiting-in-Some.waiting c.in_ok-waiting-in-Some.ensures
    c.in_ok-judge-in-Some.field-0 c.in_ok-judge-in-Some.ensures.judges false c.if-branch.false
