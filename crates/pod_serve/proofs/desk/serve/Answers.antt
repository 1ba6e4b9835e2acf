use Rattle.conn_talk.specs.Agents.{asking_of}
use Rattle.pod_live.specs.declared.session.Seat.{Seat}
use Rattle.pod_serve.specs.Desks.{gate_view_of}
use Rattle.pod_serve.specs.Served.{link_view_of}
use Rattle.pod_serve.specs.declared.desk.Post.{Post}
use Rattle.pod_serve.proofs.DeskLemmas.{each_served, met_parts}
use Rattle.pod_serve.proofs.desk.serve.Goals as goal

pub returns : goal.returns
returns g c =
    let N = g.N.StoreName in
    let met = c.gather.ensures.one_list in
    let session = λ (desk : Seat (Post g.row.G.Denot g.row.G-Conn.Denot) g.row.N.Denot). desk.session in
    let gate = λ (desk : Seat (Post g.row.G.Denot g.row.G-Conn.Denot) g.row.N.Denot). desk.rest.gate in
    let told = λ (desk : Seat (Post g.row.G.Denot g.row.G-Conn.Denot) g.row.N.Denot). desk.rest.end in
    record {
      served = c.serve_beside.new.desks;
      desks = each_served N.kept N.opened.next (g.C.Clock.may_give c.args.clock.now) (asking_of c.args.agents.now) (link_view_of g.G.Conn.Link.rest g.G.Conn.Link.sent g.G.Conn.Link.counts) (gate_view_of g.G.Gate.rest g.G.Gate.back g.G.Gate.faults g.G.Gate.given g.G.Gate.ends) session gate told _ 1 c.args.desks.now c.serve_beside.new.desks c.serve_beside.auto.desks c.serve_beside.ensures;
      list = met.0;
      opening_is = met.1;
      grown = met.2;
      met = met_parts c.serve_beside.new.desks c.gather.new.seats (λ desk. desk.session) (λ desk. desk.rest) (λ rest. rest.gate) (λ rest. rest.end) met.0 met.3;
      took = met.4;
    }
