use Rattle.std.proofs.Common.{◌++◌, take, sym, subst}
use Rattle.http_payload.specs.PayloadState.{payload_state, RepresentsBody}
use Rattle.http_payload.proofs.body_bytes.feed_body.Goals as goal

-- the frozen bytes are those that grew
pub returns-in_ok-freeze-clause-represents : goal.returns-in_ok-freeze-clause-represents
returns-in_ok-freeze-clause-represents c form text represents =
    subst (λ b. RepresentsBody form (payload_state c.in_ok-step.step.stage c.grow_body.new.line.items b) (text ++ take c.in_ok-step.step.taken c.args.piece.now))
    (sym c.in_ok-freeze.ensures.same) (c.in_ok-step.ensures.represents form text represents)
