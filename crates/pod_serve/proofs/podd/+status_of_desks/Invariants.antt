use Rattle.std.proofs.Common.{length}
use Rattle.pod_serve.proofs.podd.+status_of_desks.Given as goal

abbrev pub decreases-status_of_desks : goal.decreases-status_of_desks
decreases-status_of_desks g a = length a.desks.now
