use Rattle.std.proofs.Common.{arith}
use Rattle.journal_pair.proofs.Appends.{not_written, written, appends_through}
use Rattle.journal_pair.proofs.append_record.write.Goals as goal

pub returns-in-Ok-clause-writes : goal.returns-in-Ok-clause-writes
returns-in-Ok-clause-writes g c = written g.D.Disk.image g.D.Disk.moment g.D.Disk.left_since g.D.Disk.only_now g.D.Disk.counts_now c.args.disks.now.first c.args.disks.now.second c.make_ready.new.disks.first c.make_ready.new.disks.second c.args.pair.now c.make_ready.new.pair c.args.snapshot.now c.args.body.now
    c.in-Ok.field-0 c.in-Ok.ensures.readies c.requires.known
    c.append.new.first c.append.new.second c.append.new.self c.append.result (record {
      moments = appends_through g.D.Disk.image g.D.Disk.moment g.D.Disk.left_since g.D.Disk.only_now g.D.Disk.counts_now c.args.disks.now.first c.args.disks.now.second c.make_ready.new.disks.first c.make_ready.new.disks.second c.args.pair.now c.make_ready.new.pair c.args.snapshot.now c.args.body.now c.append.new.first c.append.new.second (omega (arith, c.len-len.ensures.short)) c.append.ensures.gates;
      other = c.append.ensures.other;
      active = c.append.ensures.active;
      format = c.append.ensures.format;
      epoch = c.append.ensures.epoch;
      appended = c.append.ensures.appended;
      fault = c.append.ensures.fault;
      passed = c.append.ensures.passed;
      long = c.append.ensures.long;
    })

pub returns-in-Err-clause-writes : goal.returns-in-Err-clause-writes
returns-in-Err-clause-writes g c = not_written g.D.Disk.image g.D.Disk.moment g.D.Disk.left_since g.D.Disk.only_now g.D.Disk.counts_now c.args.disks.now.first c.args.disks.now.second c.make_ready.new.disks.first c.make_ready.new.disks.second c.args.pair.now c.make_ready.new.pair c.args.snapshot.now c.args.body.now
    c.in-Err.fault c.in-Err.ensures.readies
