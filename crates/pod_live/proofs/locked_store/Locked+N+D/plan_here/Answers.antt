use Rattle.std.proofs.Common.{subst}
use Rattle.pod_live.specs.Locks.{LockState, IsPlannedHere}
use Rattle.pod_live.proofs.BookLemmas.{planned_here}
use Rattle.token_table.specs.Credentials.{asked_view}
use Rattle.pod_live.proofs.locked_store.Locked+N+D.plan_here.Goals as goal

pub returns-in-Ok : goal.returns-in-Ok
returns-in-Ok g c =
    let N = g.N.StoreName in
    let asked = asked_view c.args.asked.now in
    let inside : LockState g.row.D.Denot = record { keeper = c.self.inside.keeper; list = c.self.inside.publisher.list; changes = c.self.inside.changes.total; faults = c.self.inside.faults.total } in
    let here = planned_here g.D.Disk.image g.D.Disk.faults N.kept N.safe N.opened g.N.ViewName.opening N.counted inside c.self.invariant.0 c.args.request.now asked c.args.stamp c.in-Ok.plan c.requires c.in-Ok.ensures in
    subst (λ (s : LockState g.row.D.Denot). IsPlannedHere g.D.Disk.image N.kept N.opened.next s.list s.keeper c.args.request.now asked c.args.stamp c.in-Ok.plan) c.self.view_is here
