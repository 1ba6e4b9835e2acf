use Rattle.std.proofs.Common.{false, drop, refl, arith}
use Rattle.conn_talk.specs.Agents.{asking_of}
use Rattle.pod_serve.specs.Served.{link_view_of}
use Rattle.pod_serve.proofs.LinkLemmas.{opens}
use Rattle.pod_serve.proofs.connection.serve_link.Goals as goal

pub loop-init : goal.loop-init
loop-init g c = (
  tt,
  tt,
  c.requires.ready,
  omega arith,
  omega arith,
  refl,
  refl,
  opens (record { conn = c.args.conn; may_give = g.C.Clock.may_give c.args.clock.now; asking = asking_of c.args.agents.now; trails = false; turns = g.A.Answers.turns; passes = g.A.Answers.passes }) c.args.answers.now (link_view_of g.L.Link.rest g.L.Link.sent g.L.Link.counts c.args.output.now.link.now) c.new.result (drop c.args.output.now.from c.args.output.now.held.now.items) c.new.ensures c.requires.empty,
)
