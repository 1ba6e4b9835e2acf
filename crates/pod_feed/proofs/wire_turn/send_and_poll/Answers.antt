use Rattle.std.proofs.Common.{◌≡◌, List, ℕ, ap, subst, ◌∙◌, ◌++◌}
use Rattle.std.specs.Option.{option_map}
use mathlib.Core.List.{IsPrefix}
use Rattle.pod_feed.specs.Feeds.{wire_view_of}
use Rattle.pod_feed.proofs.TurnLemmas.{ended_so, told_so}
use Rattle.pod_feed.proofs.wire_turn.send_and_poll.Goals as goal

pub returns-in-Ok : goal.returns-in-Ok
returns-in-Ok g c =
    let view = wire_view_of g.W.Wire.sent g.W.Wire.polls g.W.Wire.faults g.W.Wire.closed in
    let sent = c.in-Ok.ensures.sent.whole ∙ ap (λ (ns : List (List ℕ)). option_map (λ (told : List (List ℕ)). told ++ ns) (g.W.Wire.sent c.args.wire.now)) c.as_slice.ensures in record {
      turned = told_so c.args.report.now (view c.args.wire.now) (view c.send_texts.new.wire) (view c.poll_after.new.wire) sent c.in-Ok.ensures.polls c.in-Ok.ensures.faults.kept c.in-Ok.ensures.closed c.poll_after.result c.poll_after.ensures.polled;
      ended = ended_so c.args.report.now (view c.args.wire.now) (view c.send_texts.new.wire) (view c.poll_after.new.wire) sent c.in-Ok.ensures.polls c.in-Ok.ensures.faults.kept c.in-Ok.ensures.closed c.poll_after.result c.poll_after.ensures.polled;
      follows = g.W.Wire.joins c.args.wire.now c.send_texts.new.wire c.poll_after.new.wire c.in-Ok.ensures.follows c.poll_after.ensures.follows;
    }

pub returns-in-Err-clause-ended : goal.returns-in-Err-clause-ended
returns-in-Err-clause-ended g c =
    let part = subst (λ (ns : List (List ℕ)). (some : List (List ℕ)) × IsPrefix some ns × (g.W.Wire.sent c.send_texts.new.wire ≡ option_map (λ (told : List (List ℕ)). told ++ some) (g.W.Wire.sent c.args.wire.now))) c.as_slice.ensures c.in-Err.ensures.sent.part in record {
      some = part.0;
      part = part.1;
      sent = part.2;
      polls = c.in-Err.ensures.polls;
      faults = c.in-Err.ensures.faults.failed;
      closed = c.in-Err.ensures.closed;
    }
