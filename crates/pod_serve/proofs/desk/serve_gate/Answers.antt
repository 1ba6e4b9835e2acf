use Rattle.std.proofs.Common.{arith}
use Rattle.conn_talk.specs.Agents.{asking_of}
use Rattle.pod_serve.specs.Desks.{gate_view_of}
use Rattle.pod_serve.specs.Served.{link_view_of}
use Rattle.pod_serve.proofs.DeskLemmas.{begins, one_more}
use Rattle.pod_serve.proofs.desk.serve_gate.Goals as goal

pub loop-init : goal.loop-init
loop-init g c = (begins g.N.StoreName.kept g.N.StoreName.opened.next (g.C.Clock.may_give c.args.clock.now) (asking_of c.args.agents.now) (link_view_of g.G.Conn.Link.rest g.G.Conn.Link.sent g.G.Conn.Link.counts) c.args.step c.args.first c.args.session.now (gate_view_of g.G.Gate.rest g.G.Gate.back g.G.Gate.faults g.G.Gate.given g.G.Gate.ends c.args.gate.now), omega (arith, c.requires))

pub loop-preserved : goal.loop-preserved
loop-preserved g c =
    let gate = gate_view_of g.G.Gate.rest g.G.Gate.back g.G.Gate.faults g.G.Gate.given g.G.Gate.ends in (
      one_more g.N.StoreName.kept g.N.StoreName.opened.next (g.C.Clock.may_give c.args.clock.now) (asking_of c.args.agents.now) (link_view_of g.G.Conn.Link.rest g.G.Conn.Link.sent g.G.Conn.Link.counts) c.args.step c.args.first c.args.session.now (gate c.args.gate.now) c.loop.counter c.loop.number c.loop.out_of_memory c.loop.session (gate c.loop.gate) c.loop.invariant.0 c.in-Served.end c.serve_next.new.session (gate c.serve_next.new.gate) c.in-Served.ensures c.has_starved-out_of_memory.result c.has_starved-out_of_memory.ensures.none c.has_starved-out_of_memory.ensures.some,
      omega (arith, c.loop.invariant.1, c.requires),
    )
