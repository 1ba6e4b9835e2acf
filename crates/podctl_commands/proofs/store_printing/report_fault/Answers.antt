use Rattle.std.proofs.Common.{subst, sym}
use Rattle.podctl_commands.specs.Prints.{ReportsDamage}
use Rattle.podctl_commands.proofs.Refused.{refused_tells}
use Rattle.podctl_commands.proofs.store_printing.report_fault.Goals as goal

pub returns-clause-told : goal.returns-clause-told
returns-clause-told g c =
    let old = g.E.Sink.taken c.args.errors.now in
    let new = g.E.Sink.taken c.report_refusal.new.errors in
    let before = g.E.Sink.faults c.args.errors.now in
    let after = g.E.Sink.faults c.report_refusal.new.errors in
    subst (λ end. ReportsDamage end old new before after) (sym c.refused_end.ensures)
    (refused_tells c.args.fault old new before after c.report_refusal.ensures.told)
