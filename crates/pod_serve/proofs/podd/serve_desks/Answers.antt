use Rattle.std.proofs.Common.{ap, arith, length, subst}
use Rattle.pod_live.specs.Stores.{Covers}
use Rattle.pod_live.specs.Takes.{TookChanges}
use Rattle.pod_live.specs.declared.session.Seat.{Seat}
use Rattle.pod_serve.specs.declared.desk.Post.{Post}
use Rattle.pod_serve.proofs.PoddLemmas.{met_both, same_changes, same_faults}
use Rattle.pod_serve.proofs.podd.serve_desks.Goals as goal

pub returns : goal.returns
returns g c =
    let served = c.serve.ensures in
    let closed = c.close.ensures.one_list in
    let session = λ (desk : Seat (Post g.row.G.Denot g.row.G-Conn.Denot) g.row.N.Denot). desk.session in
    let gate = λ (desk : Seat (Post g.row.G.Denot g.row.G-Conn.Denot) g.row.N.Denot). desk.rest.gate in
    let told = λ (desk : Seat (Post g.row.G.Denot g.row.G-Conn.Denot) g.row.N.Denot). desk.rest.end in
    let changes = same_changes session gate told served.list served.served c.serve.new.desks served.met in
    let faults = same_faults session gate told served.list served.served c.serve.new.desks served.met in
    record {
      mid = served.served;
      list = closed.0;
      desks = served.desks;
      met = met_both served.served c.serve.new.desks c.close.new.seats (λ desk. desk.session) (λ desk. desk.rest) (λ rest. rest.gate) (λ rest. rest.end) served.list closed.0 served.met closed.4;
      longer_kept = closed.2;
      grown = omega (arith, closed.3, ap length c.requires.opening, changes);
      covered = subst (λ n. Covers g.N.StoreName.counted n (g.D.Disk.faults c.close.result.first) (g.D.Disk.faults c.close.result.second)) faults c.close.ensures.faults;
      still_safe = c.close.ensures.safe;
      took = subst (λ n. TookChanges g.D.Disk.image g.D.Disk.moment g.D.Disk.left_since g.N.KeeperName.began closed.0 n c.close.result) faults closed.5;
    }
