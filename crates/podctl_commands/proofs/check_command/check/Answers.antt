use Rattle.podctl_commands.proofs.EndFaults.{printed_disk, printed_fails}
use Rattle.std.proofs.Common.{map, ◌∙◌, subst, sym, arith}
use Rattle.stored_forms.specs.StoredForms.{snapshot_bytes}
use Rattle.pod_records.specs.Records.{entry_text}
use Rattle.podctl_commands.specs.Prints.{Prints}
use Rattle.podctl_commands.specs.Texts.{check_text}
use Rattle.podctl_commands.proofs.Printed.{checked, prints}
use Rattle.podctl_commands.proofs.Refused.{refused_prints, store_of}
use Rattle.podctl_commands.proofs.check_command.check.Goals as goal

pub returns-in-Ok-clause-printed : goal.returns-in-Ok-clause-printed
returns-in-Ok-clause-printed g c =
    let h = c.in-Ok.ensures.opened in
    let first = g.D.Disk.content c.args.disks.first in
    let second = g.D.Disk.content c.args.disks.second in
    let old = g.K.Sink.taken c.args.output.now in
    let new = g.K.Sink.taken c.print_counts-printed.new.output in
    let printed = c.print_counts-printed.result in
    let are = c.entries_in.ensures (snapshot_bytes h.snapshot) (map (entry_text c.in-Ok.keeper.pair.journal.format) h.entries) (c.as_slice.ensures ∙ h.holds.texts) in
    subst (λ end. Prints check_text first second old new end) (sym c.finish.ensures.end)
    (prints check_text first second old new h.snapshot h.entries (store_of g.D.Disk.image first second c.in-Ok.records.items c.in-Ok.keeper h) printed
    (checked g.D.Disk.image first second c.in-Ok.records.items c.in-Ok.keeper h c.entries_in.result.now are printed old new c.print_counts-printed.ensures.writes))

pub returns-in-Err-clause-printed : goal.returns-in-Err-clause-printed
returns-in-Err-clause-printed g c =
    let first = g.D.Disk.content c.args.disks.first in
    let second = g.D.Disk.content c.args.disks.second in
    let old = g.K.Sink.taken c.args.output.now in
    subst (λ end. Prints check_text first second old old end) (sym c.refuse.ensures.end)
    (refused_prints check_text first second _ _ _ _ old c.in-Err.refused.fault c.in-Err.ensures.cause)

pub returns-in-Ok-clause-counted : goal.returns-in-Ok-clause-counted
returns-in-Ok-clause-counted g c = record {
  disk_fault = λ e. absurd (printed_disk c.print_counts-printed.result (sym c.finish.ensures.end ∙ e));
  write_fault = λ e. c.print_counts-printed.ensures.failed (printed_fails c.print_counts-printed.result (sym c.finish.ensures.end ∙ e));
  output_faults = c.print_counts-printed.ensures.counts;
  error_faults = omega arith;
}
