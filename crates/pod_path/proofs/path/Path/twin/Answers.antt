use Rattle.std.proofs.Common.{sym}
use Rattle.pod_path.proofs.Twins.{twin_back}
use Rattle.pod_path.proofs.Ancestors.{twin_parent}
use Rattle.pod_path.proofs.path.Path.twin.Goals as goal

pub returns-clause-back : goal.returns-clause-back
returns-clause-back c = twin_back c.args.self.now c.in_ok-twin.twin c.twin_text.ensures.path (sym c.in_ok-twin.ensures.twin)

pub returns-clause-parent : goal.returns-clause-parent
returns-clause-parent c = twin_parent c.args.self.now c.in_ok-twin.twin c.twin_text.ensures.path (sym c.in_ok-twin.ensures.twin)
