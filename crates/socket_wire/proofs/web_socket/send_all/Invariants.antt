use Rattle.std.proofs.Common.{length}
use Rattle.socket_wire.specs.Passing.{PassesLink}
use Rattle.socket_wire.proofs.web_socket.send_all.Given as goal

abbrev pub invariant-loop-rest : goal.invariant-loop-rest
invariant-loop-rest g l =
    PassesLink (g.L.Link.rest l.initial.link) (g.L.Link.rest l.link) (g.L.Link.sent l.initial.link) (g.L.Link.sent l.link)
    (g.L.Link.counts l.initial.link) (g.L.Link.counts l.link)

abbrev pub decreases-loop-rest : goal.decreases-loop-rest
decreases-loop-rest g l = length l.rest
