use Rattle.std.proofs.Common.{◌-◌, length, take, drop, ◌∙◌}
use Rattle.pod_serve.specs.ServingLaws.{written_joins}
use Rattle.pod_serve.proofs.SentLemmas.{text_more, wrote}
use Rattle.pod_serve.proofs.link_output.send_from.Goals as goal

-- one write more
pub loop-at-preserved : goal.loop-at-preserved
loop-at-preserved g c =
    let text = c.args.text.now in
    let at = c.loop-at.at in (
      text_more text at c.in-Ok.count (g.L.Link.sent c.loop-at.link) (g.L.Link.sent c.write.new.self) c.in-Ok.ensures.sent.added ∙ c.loop-at.invariant.0,
      written_joins (g.L.Link.rest c.args.link.now) (g.L.Link.rest c.loop-at.link) (g.L.Link.rest c.write.new.self) (g.L.Link.sent c.args.link.now) (g.L.Link.sent c.loop-at.link) (g.L.Link.sent c.write.new.self) (g.L.Link.counts c.args.link.now) (g.L.Link.counts c.loop-at.link) (g.L.Link.counts c.write.new.self) c.loop-at.invariant.1
          (wrote (g.L.Link.rest c.loop-at.link) (g.L.Link.rest c.write.new.self) (g.L.Link.sent c.loop-at.link) (g.L.Link.sent c.write.new.self) (g.L.Link.counts c.loop-at.link) (g.L.Link.counts c.write.new.self) (take (length text - at) (drop at text)) c.in-Ok.count c.in-Ok.ensures.rest c.in-Ok.ensures.sent c.in-Ok.ensures.counts),
    )
