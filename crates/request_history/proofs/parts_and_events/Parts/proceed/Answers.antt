use Rattle.std.proofs.Common.{refl, ap}
use Rattle.pod_core.specs.KeeperSteps.{KeeperView}
use Rattle.request_history.proofs.Phases.{took_proceeded, with_view}
use Rattle.request_history.proofs.parts_and_events.Parts.proceed.Goals as goal

pub returns-in-Ok : goal.returns-in-Ok
returns-in-Ok c = took_proceeded c.args.self.now c.requires.fine c.requires.runs c.args.step c.proceed.new.self c.in-Ok.ensures.step

pub returns-in-Err : goal.returns-in-Err
returns-in-Err c = (ap (λ (v : KeeperView). with_view c.args.self.now v) c.in-Err.ensures.unchanged, tt)
