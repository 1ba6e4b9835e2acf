use Rattle.podctl_commands.proofs.EndedRuns.{are_stored}
use Rattle.podctl_commands.proofs.ship_command.stored_records.Goals as goal

pub returns-in-Ok-clause-records : goal.returns-in-Ok-clause-records
returns-in-Ok-clause-records g c =
    are_stored g.D.Disk.image (g.D.Disk.content c.args.disks.first) (g.D.Disk.content c.args.disks.second) c.in-Ok.records.items c.in-Ok.keeper c.in-Ok.ensures.opened
