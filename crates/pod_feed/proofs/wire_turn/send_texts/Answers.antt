use Rattle.std.proofs.Common.{ℕ, take, subst, ◌∙◌, arith}
use Rattle.pod_base.specs.Counts.{CountIncreased}
use Rattle.pod_base.proofs.Prefixes.{prefix_take}
use Rattle.pod_feed.proofs.FeedLemmas.{sends_more}
use Rattle.pod_feed.proofs.wire_turn.send_texts.Goals as goal

pub loop-text-preserved : goal.loop-text-preserved
loop-text-preserved g c =
    let old = c.args.wire.now in
    let mid = c.loop-text.wire in
    let new = c.send_text.new.self in
    let done = c.loop-text.invariant in
    let sent = c.in-Ok.ensures in (
      sends_more c.args.texts.now c.loop-text.text-index c.text-item.result (g.W.Wire.sent old) (g.W.Wire.sent mid) (g.W.Wire.sent new) (omega arith) c.text-item.is done.0 sent.sent.sent,
      sent.polls ∙ done.1,
      sent.faults.kept ∙ done.2,
      sent.closed ∙ done.3,
      g.W.Wire.joins old mid new done.4 sent.follows,
    )

pub returns-in-Err : goal.returns-in-Err
returns-in-Err g c =
    let old = c.args.wire.now in
    let mid = c.loop-text.wire in
    let new = c.send_text.new.self in
    let done = c.loop-text.invariant in
    let sent = c.in-Err.ensures in record {
      sent = record {
        whole = tt;
        part = (take c.loop-text.text-index c.args.texts.now, prefix_take c.loop-text.text-index c.args.texts.now, sent.sent.kept ∙ done.0);
      };
      polls = sent.polls ∙ done.1;
      faults = record {
        no_fewer = omega (arith, sent.faults.no_fewer, done.2);
        failed = subst (λ (n : ℕ). CountIncreased n (g.W.Wire.faults new)) done.2 sent.faults.failed;
        kept = tt;
      };
      closed = sent.closed ∙ done.3;
      follows = g.W.Wire.joins old mid new done.4 sent.follows;
    }
