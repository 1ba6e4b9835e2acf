use Rattle.socket_wire.proofs.LinkCalls.{read_some, read_none}
use Rattle.socket_wire.proofs.web_socket.receive.Goals as goal

pub returns-in-Ok-clause-passes : goal.returns-in-Ok-clause-passes
returns-in-Ok-clause-passes g c =
    let old = c.args.link.now in
    let new = c.read.new.self in
    read_some c.in-Ok.count (g.L.Link.rest old) (g.L.Link.rest new) (g.L.Link.sent old) (g.L.Link.sent new) (g.L.Link.counts old) (g.L.Link.counts new) c.in-Ok.ensures.rest c.in-Ok.ensures.sent c.in-Ok.ensures.counts

pub returns-in-Err-clause-passes : goal.returns-in-Err-clause-passes
returns-in-Err-clause-passes g c =
    let old = c.args.link.now in
    let new = c.read.new.self in
    read_none c.in-Err.failed (g.L.Link.rest old) (g.L.Link.rest new) (g.L.Link.sent old) (g.L.Link.sent new) (g.L.Link.counts old) (g.L.Link.counts new) c.in-Err.ensures.rest c.in-Err.ensures.sent c.in-Err.ensures.counts
