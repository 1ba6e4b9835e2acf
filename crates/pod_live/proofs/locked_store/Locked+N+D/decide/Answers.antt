use Rattle.std.proofs.Common.{Err, ap}
use Rattle.pod_live.proofs.BookLemmas.{faulted_at}
use Rattle.token_table.specs.Credentials.{asked_view}
use Rattle.pod_live.proofs.locked_store.Locked+N+D.decide.Goals as goal

pub returns-in-Err-DiskFault-clause-fault_at : goal.returns-in-Err-DiskFault-clause-fault_at
returns-in-Err-DiskFault-clause-fault_at g c = λ _.
    faulted_at g.D.Disk.image g.N.StoreName.kept g.N.StoreName.opened.next c.args.self.now.list c.args.session.now.seen c.args.self.now.keeper c.args.request.now (asked_view c.args.asked.now) c.args.stamp c.in-Ok.plan c.in-Ok.ensures c.requires.seen c.requires.change
    (c.in-Err-DiskFault.ensures.entry (ap (λ e. Err e) c.in-Err-DiskFault.field-0-is))
