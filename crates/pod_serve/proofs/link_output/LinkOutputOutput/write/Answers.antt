use Rattle.std.proofs.Common.{drop, ap, refl, ◌∙◌}
use Rattle.pod_serve.specs.Serving.{taken_with}
use Rattle.pod_serve.specs.ServingLaws.{written_joins}
use Rattle.pod_serve.proofs.SentLemmas.{held_more, sent_at_once, wrote}
use Rattle.pod_serve.proofs.link_output.LinkOutputOutput.write.Goals as goal

pub returns-then-hold-clause-taken : goal.returns-then-hold-clause-taken
returns-then-hold-clause-taken g c =
    held_more c.args.self.now.from c.args.self.now.held.now.items c.hold.new.held.items c.args.piece.now (g.L.Link.sent c.args.self.now.link.now) _ (c.hold.ensures.whole c.if-hold.true) (c.hold.ensures.held c.if-hold.true) refl

pub returns-then-hold-2-clause-taken : goal.returns-then-hold-2-clause-taken
returns-then-hold-2-clause-taken g c =
    held_more c.flush.new.self.from c.flush.new.self.held.now.items c.hold-2.new.held.items c.args.piece.now (g.L.Link.sent c.flush.new.self.link.now) _ (c.hold-2.ensures.whole c.if-hold-2.true) (c.hold-2.ensures.held c.if-hold-2.true) (c.in_ok-flush.ensures.taken ∙ ap (λ xs. taken_with (drop c.args.self.now.from xs) (g.L.Link.sent c.args.self.now.link.now)) (c.hold.ensures.same c.if-hold.false))

pub returns-in-Ok-clause-taken : goal.returns-in-Ok-clause-taken
returns-in-Ok-clause-taken g c =
    sent_at_once c.flush.new.self.from c.in-Ok.count c.flush.new.self.held.now.items c.hold-2.new.held.items c.args.piece.now _ (g.L.Link.sent c.flush.new.self.link.now) (g.L.Link.sent c.write.new.self) c.in_ok-flush.ensures.empty (c.hold-2.ensures.same c.if-hold-2.false) (c.in_ok-flush.ensures.taken ∙ ap (λ xs. taken_with (drop c.args.self.now.from xs) (g.L.Link.sent c.args.self.now.link.now)) (c.hold.ensures.same c.if-hold.false)) c.in-Ok.ensures.sent

pub returns-in-Ok-clause-follows : goal.returns-in-Ok-clause-follows
returns-in-Ok-clause-follows g c =
    let before = c.args.self.now.link.now in
    let mid = c.flush.new.self.link.now in
    let after = c.write.new.self in (
      c.in_ok-flush.ensures.follows.0,
      written_joins (g.L.Link.rest before) (g.L.Link.rest mid) (g.L.Link.rest after) (g.L.Link.sent before) (g.L.Link.sent mid) (g.L.Link.sent after) (g.L.Link.counts before) (g.L.Link.counts mid) (g.L.Link.counts after) c.in_ok-flush.ensures.follows.1
          (wrote (g.L.Link.rest mid) (g.L.Link.rest after) (g.L.Link.sent mid) (g.L.Link.sent after) (g.L.Link.counts mid) (g.L.Link.counts after) c.args.piece.now c.in-Ok.count c.in-Ok.ensures.rest c.in-Ok.ensures.sent c.in-Ok.ensures.counts),
    )
