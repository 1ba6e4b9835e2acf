use Rattle.socket_wire.proofs.LinkCalls.{wrote_some, wrote_none}
use Rattle.socket_wire.proofs.web_socket.write.Goals as goal

pub returns-in-Ok-clause-passes : goal.returns-in-Ok-clause-passes
returns-in-Ok-clause-passes g c =
    let old = c.args.link.now in
    let new = c.write.new.self in
    wrote_some c.in-Ok.count c.args.text.now (g.L.Link.rest old) (g.L.Link.rest new) (g.L.Link.sent old) (g.L.Link.sent new) (g.L.Link.counts old) (g.L.Link.counts new) c.in-Ok.ensures.sent c.in-Ok.ensures.rest c.in-Ok.ensures.counts

pub returns-in-Err-clause-passes : goal.returns-in-Err-clause-passes
returns-in-Err-clause-passes g c =
    let old = c.args.link.now in
    let new = c.write.new.self in
    wrote_none c.in-Err.failed c.args.text.now (g.L.Link.rest old) (g.L.Link.rest new) (g.L.Link.sent old) (g.L.Link.sent new) (g.L.Link.counts old) (g.L.Link.counts new) c.in-Err.ensures.sent c.in-Err.ensures.rest c.in-Err.ensures.counts
