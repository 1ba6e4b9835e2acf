use Rattle.std.proofs.Common.{arith}
use Rattle.journal_pair.proofs.Renewals.{not_renewed, renewed}
use Rattle.journal_pair.proofs.before_append.checkpoint.Goals as goal

pub returns-in-Ok-clause-readies : goal.returns-in-Ok-clause-readies
returns-in-Ok-clause-readies g c = renewed g.D.Disk.image g.D.Disk.moment g.D.Disk.left_since g.D.Disk.only_now g.D.Disk.counts_now c.args.disks.now.first c.args.disks.now.second c.repair.new.disks.first c.repair.new.disks.second c.args.pair.now c.repair.new.pair
    c.in-Ok.field-0 c.in-Ok.ensures.readies c.requires.known
    c.checkpoint.new.first c.checkpoint.new.second c.checkpoint.new.self c.args.snapshot.now c.checkpoint.result c.requires.below (omega (arith, c.len-len.ensures.short)) (record {
      moments = c.checkpoint.ensures.moments;
      kept = c.checkpoint.ensures.kept;
      done = c.checkpoint.ensures.done;
      fault = c.checkpoint.ensures.fault;
      fault_active = c.checkpoint.ensures.fault_active;
      fault_journal = c.checkpoint.ensures.fault_journal;
      fault_passed = c.checkpoint.ensures.fault_passed;
      fault_long = c.checkpoint.ensures.fault_long;
    })

pub returns-in-Err-clause-readies : goal.returns-in-Err-clause-readies
returns-in-Err-clause-readies g c = not_renewed g.D.Disk.image g.D.Disk.moment g.D.Disk.left_since g.D.Disk.only_now g.D.Disk.counts_now c.args.disks.now.first c.args.disks.now.second c.repair.new.disks.first c.repair.new.disks.second c.args.pair.now c.repair.new.pair
    c.in-Err.fault c.args.snapshot.now c.in-Err.ensures.readies
