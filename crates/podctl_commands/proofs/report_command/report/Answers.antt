use Rattle.podctl_commands.specs.declared.store_end.StoreEnd.{StoreEnd}
use Rattle.std.proofs.Common.{subst, sym, arith}
use Rattle.podctl_commands.specs.Endings.{IsReportedSo}
use Rattle.podctl_commands.specs.Lines.{pod_text, report_text}
use Rattle.podctl_commands.specs.Prints.{Prints}
use Rattle.podctl_commands.proofs.Refused.{refused_prints}
use Rattle.podctl_commands.proofs.EndedRuns.{prints}
use Rattle.podctl_commands.proofs.report_command.report.Goals as goal

pub returns-in-Ok-clause-printed : goal.returns-in-Ok-clause-printed
returns-in-Ok-clause-printed g c =
    let h = c.in-Ok.ensures.opened in
    let first = g.D.Disk.content c.args.disks.first in
    let second = g.D.Disk.content c.args.disks.second in
    let old = g.K.Sink.taken c.args.output.now in
    let new = g.K.Sink.taken c.print_report-end.new.output in
    let agent = c.args.agent.now in
    prints g.D.Disk.image first second c.in-Ok._records.items c.in-Ok.keeper h old new (report_text agent) c.print_report-end.result
    (subst (λ pod. IsReportedSo (pod_text agent pod) old new c.print_report-end.result) h.kept.pod c.print_report-end.ensures.prints)

pub returns-in-Err-clause-printed : goal.returns-in-Err-clause-printed
returns-in-Err-clause-printed g c =
    let first = g.D.Disk.content c.args.disks.first in
    let second = g.D.Disk.content c.args.disks.second in
    let old = g.K.Sink.taken c.args.output.now in
    subst (λ end. Prints (report_text c.args.agent.now) first second old old end) (sym c.refuse.ensures.end)
    (refused_prints (report_text c.args.agent.now) first second _ _ _ _ old c.in-Err.refused.fault c.in-Err.ensures.cause)

pub returns-in-Ok-clause-counted : goal.returns-in-Ok-clause-counted
returns-in-Ok-clause-counted g c =
    let printed = c.print_report-end.ensures in
    let old = g.K.Sink.taken c.args.output.now in
    let new = g.K.Sink.taken c.print_report-end.new.output in
    record {
      disk_fault = λ e. absurd (subst (λ (end : StoreEnd). IsReportedSo (pod_text c.args.agent.now c.in-Ok.keeper.pod) old new end) e printed.prints);
      write_fault = printed.write_fault;
      output_faults = printed.output_faults;
      error_faults = omega arith;
    }
