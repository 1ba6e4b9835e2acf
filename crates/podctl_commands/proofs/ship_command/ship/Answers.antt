use Rattle.std.proofs.Common.{subst, sym}
use Rattle.pod_io.specs.Writing.{Writes}
use Rattle.pod_follow.specs.Frames.{frames_of}
use Rattle.podctl_commands.specs.Ships.{Ships}
use Rattle.podctl_commands.specs.Prints.{ReportsDamage}
use Rattle.podctl_commands.proofs.EndedRuns.{refused_ships, ships, written_told}
use Rattle.podctl_commands.proofs.ship_command.ship.Goals as goal

pub returns-in-Ok-clause-ships : goal.returns-in-Ok-clause-ships
returns-in-Ok-clause-ships g c =
    let first = g.D.Disk.content c.args.disks.first in
    let second = g.D.Disk.content c.args.disks.second in
    let old = g.K.Sink.taken c.args.output.now in
    let new = g.K.Sink.taken c.write_frames-written.new.output in
    subst (λ end. Ships first second old new end) (sym c.written_end.ensures)
    (ships first second c.in-Ok.records.items c.in-Ok.ensures.records old new c.write_frames-written.result
    (subst (λ records. Writes c.write_frames-written.result (frames_of records) old new) c.as_slice.ensures c.write_frames-written.ensures.writes))

pub returns-in-Err-clause-ships : goal.returns-in-Err-clause-ships
returns-in-Err-clause-ships g c =
    let first = g.D.Disk.content c.args.disks.first in
    let second = g.D.Disk.content c.args.disks.second in
    let old = g.K.Sink.taken c.args.output.now in
    subst (λ end. Ships first second old old end) (sym c.refuse.ensures.end)
    (refused_ships first second _ _ _ _ old c.in-Err.refused.fault c.in-Err.ensures.cause)

pub returns-in-Ok-clause-told : goal.returns-in-Ok-clause-told
returns-in-Ok-clause-told g c =
    let old = g.E.Sink.taken c.args.errors.now in
    let before = g.E.Sink.faults c.args.errors.now in
    subst (λ end. ReportsDamage end old old before before) (sym c.written_end.ensures)
    (written_told c.write_frames-written.result old before before)
