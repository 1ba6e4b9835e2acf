use Rattle.std.proofs.Common.{◌∙◌, ap}
use Rattle.token_table.specs.Credentials.{asked_view}
use Rattle.pod_keeper.specs.Commits.{later}
use Rattle.pod_keeper.specs.KeeperState.{KeeperState}
use Rattle.pod_keeper.proofs.Carried.{is_plan}
use Rattle.pod_keeper.proofs.keeper.Keeper.plan.Goals as goal

pub returns : goal.returns
returns g c = is_plan g.D.Disk.image g.D.Disk.moment g.D.Disk.left_since c.args.self.now c.args.request.now (asked_view c.args.asked.now) c.args.stamp c.in_ok-replied.replied c.seq-place.result c.stamp_after-stamp.result c.in_ok-next.next
    (c.stamp_after-stamp.ensures ∙ ap (λ (s : KeeperState g.row.D.Denot). later c.args.stamp s.last) c.self.view_is) c.seq-place.ensures
    c.in_ok-replied.ensures.reply c.in_ok-replied.ensures.sent c.in_ok-replied.ensures.status c.in_ok-next.ensures.entry c.in_ok-next.ensures.planned
