use Rattle.pod_keeper.proofs.Reopening.{gives_what_stands}
use Rattle.pod_keeper.proofs.crash_openings.openings_give_what_stands.Goals as goal

pub returns : goal.returns
returns g c = gives_what_stands g.D.Disk.image c.store_stands_once.ensures
