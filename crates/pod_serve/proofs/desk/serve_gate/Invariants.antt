use Rattle.std.proofs.Common.{◌≤◌, ◌+◌, ◌*◌}
use Rattle.conn_talk.specs.Agents.{asking_of}
use Rattle.pod_serve.specs.Desks.{gate_view_of}
use Rattle.pod_serve.specs.Served.{link_view_of}
use Rattle.pod_serve.proofs.DeskLemmas.{IsSoFar}
use Rattle.pod_serve.proofs.desk.serve_gate.Given as goal

-- the connections so far, and a number that has room for the next one
abbrev pub invariant-loop : goal.invariant-loop
invariant-loop g l =
    IsSoFar g.N.StoreName.kept g.N.StoreName.opened.next (g.C.Clock.may_give l.clock) (asking_of l.agents) (link_view_of g.G.Conn.Link.rest g.G.Conn.Link.sent g.G.Conn.Link.counts) l.step l.first l.initial.session
    (gate_view_of g.G.Gate.rest g.G.Gate.back g.G.Gate.faults g.G.Gate.given g.G.Gate.ends l.initial.gate) l.counter l.number l.out_of_memory l.session
    (gate_view_of g.G.Gate.rest g.G.Gate.back g.G.Gate.faults g.G.Gate.given g.G.Gate.ends l.gate)
    × (l.number ≤ 64 + 64 * l.counter)
