use Rattle.std.proofs.Common.{length}
use Rattle.pod_live.proofs.locked_store.Locked+N+D.+audit.Given as goal

abbrev pub decreases-audit : goal.decreases-audit
decreases-audit g l = length l.seats.now
