use Rattle.std.proofs.Common.{◌∙◌, sym}
use Rattle.journal_pair.proofs.Repairs.{not_needed, repaired}
use Rattle.journal_pair.proofs.before_append.repair.Goals as goal

pub returns-then-not-needs_repair-clause-readies : goal.returns-then-not-needs_repair-clause-readies
returns-then-not-needs_repair-clause-readies g c = not_needed g.D.Disk.image g.D.Disk.moment g.D.Disk.left_since g.D.Disk.only_now c.args.disks.now.first c.args.disks.now.second c.args.pair.now tt
    (sym c.needs_repair.ensures ∙ c.if-not-needs_repair.true)

pub returns-clause-readies : goal.returns-clause-readies
returns-clause-readies g c = repaired g.D.Disk.image g.D.Disk.moment g.D.Disk.left_since g.D.Disk.only_now c.args.disks.now.first c.args.disks.now.second c.args.pair.now c.repair.new.first c.repair.new.second c.repair.new.self c.repair.result
    (sym c.needs_repair.ensures ∙ c.if-not-needs_repair.false) (record {
      done = c.repair.ensures.repaired;
      fault = c.repair.ensures.fault;
      kind = c.repair.ensures.fault_kind;
      active = c.repair.ensures.active;
      format = c.repair.ensures.format;
      epoch = c.repair.ensures.epoch;
      append_gates = c.repair.ensures.append_gates;
      checkpoint_moments = c.repair.ensures.checkpoint_moments;
      active_kept = c.repair.ensures.active_kept;
      other_kept = c.repair.ensures.other_kept;
      append_passed = c.repair.ensures.append_passed;
      append_long = c.repair.ensures.append_long;
      checkpoint_passed = c.repair.ensures.checkpoint_passed;
      checkpoint_long = c.repair.ensures.checkpoint_long;
    })
