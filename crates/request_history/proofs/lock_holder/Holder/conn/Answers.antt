use Rattle.std.proofs.Common.{ap}
use Rattle.pod_core.specs.KeeperSteps.{Holder}
use Rattle.request_history.proofs.lock_holder.Holder.conn.Goals as goal

pub returns : goal.returns
returns c = ap (λ (h : Holder). h.conn) c.self.view_is
