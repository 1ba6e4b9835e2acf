use Rattle.std.proofs.Common.{subst}
use Rattle.token_table.specs.Credentials.{asked_view}
use Rattle.pod_keeper.specs.KeeperRuns.{StandsWith, TakesItem}
use Rattle.pod_pipe.specs.Holders.{AdvancesUnanswered}
use Rattle.pod_pipe.proofs.stored_pod.StoredPodPodHolder.answer.Goals as goal

pub returns-in-Err-NoMemory-clause-kept : goal.returns-in-Err-NoMemory-clause-kept
returns-in-Err-NoMemory-clause-kept g c =
    subst (AdvancesUnanswered (StandsWith g.D.Disk.image) (TakesItem g.D.Disk.image g.D.Disk.moment g.D.Disk.left_since) c.args.self.now.keeper c.serve.new.self.keeper c.args.request.now (asked_view c.args.asked.now) c.args.stamp)
    c.in-Err-NoMemory.field-0-is c.in-Err-NoMemory.ensures.kept

pub returns-in-Err-DiskFault-clause-kept : goal.returns-in-Err-DiskFault-clause-kept
returns-in-Err-DiskFault-clause-kept g c =
    subst (AdvancesUnanswered (StandsWith g.D.Disk.image) (TakesItem g.D.Disk.image g.D.Disk.moment g.D.Disk.left_since) c.args.self.now.keeper c.serve.new.self.keeper c.args.request.now (asked_view c.args.asked.now) c.args.stamp)
    c.in-Err-DiskFault.field-0-is c.in-Err-DiskFault.ensures.kept
