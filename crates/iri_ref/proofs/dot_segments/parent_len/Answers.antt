use Rattle.std.proofs.Common.{◌-◌, sym, arith}
use Rattle.iri_ref.proofs.Paths.{front_at, no_front}
use Rattle.iri_ref.proofs.dot_segments.parent_len.Goals as goal

pub returns-then-path-end-eq47-clause-prefix : goal.returns-then-path-end-eq47-clause-prefix
returns-then-path-end-eq47-clause-prefix c =
    front_at c.args.path.now (c.loop-end.end - 1) (omega (arith, c.loop-end.invariant.within)) c.if-path-end-eq47.true
    (λ k after below. c.loop-end.invariant.behind k (omega arith) below)

pub returns-clause-prefix : goal.returns-clause-prefix
returns-clause-prefix c = sym (no_front c.args.path.now (λ k below. c.loop-end.invariant.behind k (omega arith) below))
