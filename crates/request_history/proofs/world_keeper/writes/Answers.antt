use Rattle.std.proofs.Common.{◌∙◌, sym, ap}
use Rattle.request_history.proofs.MaySteps.{never_opened, never_taken, written_by, written_holder}
use Rattle.request_history.proofs.world_keeper.writes.Goals as goal

pub returns-in-Taken-clause-no : goal.returns-in-Taken-clause-no
returns-in-Taken-clause-no c = λ f held e o. never_taken c.args.holder.now c.args.stage held c.in-Taken.is e

pub returns-in-Opened-clause-no : goal.returns-in-Opened-clause-no
returns-in-Opened-clause-no c = λ f held e o. never_opened c.args.holder.now c.args.stage held c.in-Opened.is e

pub returns-in-Written-clause-yes : goal.returns-in-Written-clause-yes
returns-in-Written-clause-yes c = λ t.
    let h = c.is_of_holder.ensures.yes t in
    (h.0, written_by c.args.holder.now c.args.stage h.0 c.in-Written.is h.1, h.2)

pub returns-in-Written-clause-no : goal.returns-in-Written-clause-no
returns-in-Written-clause-no c = λ f held e o. c.is_of_holder.ensures.no f held (written_holder c.args.holder.now c.args.stage held e) o
