use Rattle.std.proofs.Common.{Ok, Err, refl, sym, subst}
use Rattle.pod_keeper.specs.Kept.{IsKept}
use Rattle.pod_keeper.proofs.EnteredEntries.{known_records, carried_pairs, carried_sure, carried_long, carried_grown, stands_carried, carry_failed, stands_stayed, carry_counted}
use Rattle.pod_keeper.proofs.keeper.Keeper.write_planned.Goals as goal

pub write-requires-clause-known : goal.write-requires-clause-known
write-requires-clause-known g c = known_records g.D.Disk.image g.D.Disk.moment g.D.Disk.left_since _ c.requires.stands.0 c.requires.stands.1 c.requires.stands.2
    (subst (λ s. IsKept g.D.Disk.image s c.requires.stands.0 c.requires.stands.1 c.requires.stands.2) (sym c.self.view_is) c.requires.stands.3)

pub returns-in-Ok-clause-grown : goal.returns-in-Ok-clause-grown
returns-in-Ok-clause-grown g c = carried_grown g.D.Disk.image g.D.Disk.moment g.D.Disk.left_since c.args.self.now _ c.self.view_is c.args.planned c.requires.planned c.write.new.disks.first c.write.new.disks.second c.write.new.pair
    c.in-Ok.field-0 c.in-Ok.ensures.writes

pub returns-in-Ok-clause-stands : goal.returns-in-Ok-clause-stands
returns-in-Ok-clause-stands g c = stands_carried g.D.Disk.image g.D.Disk.moment g.D.Disk.left_since c.args.self.now _ c.self.view_is c.args.planned c.requires.planned c.write.new.disks.first c.write.new.disks.second c.write.new.pair
    c.in-Ok.field-0 c.in-Ok.ensures.writes c.requires.stands

pub returns-in-Ok-clause-pairs : goal.returns-in-Ok-clause-pairs
returns-in-Ok-clause-pairs g c = carried_pairs g.D.Disk.image g.D.Disk.moment g.D.Disk.left_since c.args.self.now _ c.self.view_is c.args.planned c.requires.planned c.write.new.disks.first c.write.new.disks.second c.write.new.pair
    (Ok c.in-Ok.field-0) c.in-Ok.ensures.writes

pub returns-in-Ok-clause-sure : goal.returns-in-Ok-clause-sure
returns-in-Ok-clause-sure g c = carried_sure g.D.Disk.image g.D.Disk.moment g.D.Disk.left_since c.args.self.now _ c.self.view_is c.args.planned c.requires.planned c.write.new.disks.first c.write.new.disks.second c.write.new.pair
    (Ok c.in-Ok.field-0) c.in-Ok.ensures.writes

pub returns-in-Ok-clause-long : goal.returns-in-Ok-clause-long
returns-in-Ok-clause-long g c = carried_long g.D.Disk.image g.D.Disk.moment g.D.Disk.left_since c.args.self.now _ c.self.view_is c.args.planned c.requires.planned c.write.new.disks.first c.write.new.disks.second c.write.new.pair
    (Ok c.in-Ok.field-0) c.in-Ok.ensures.writes

pub returns-in-Err-clause-fault : goal.returns-in-Err-clause-fault
returns-in-Err-clause-fault g c = carry_failed g.D.Disk.image g.D.Disk.moment g.D.Disk.left_since c.args.self.now _ c.self.view_is c.args.planned c.requires.planned c.write.new.disks.first c.write.new.disks.second c.write.new.pair
    c.in-Err.field-0 c.in-Err.ensures.writes

pub returns-in-Err-clause-stands : goal.returns-in-Err-clause-stands
returns-in-Err-clause-stands g c = stands_stayed g.D.Disk.image g.D.Disk.moment g.D.Disk.left_since c.args.self.now _ c.self.view_is c.args.planned c.requires.planned c.write.new.disks.first c.write.new.disks.second c.write.new.pair
    c.in-Err.field-0 c.in-Err.ensures.writes c.requires.stands

pub returns-in-Err-clause-pairs : goal.returns-in-Err-clause-pairs
returns-in-Err-clause-pairs g c = carried_pairs g.D.Disk.image g.D.Disk.moment g.D.Disk.left_since c.args.self.now _ c.self.view_is c.args.planned c.requires.planned c.write.new.disks.first c.write.new.disks.second c.write.new.pair
    (Err c.in-Err.field-0) c.in-Err.ensures.writes

pub returns-in-Err-clause-sure : goal.returns-in-Err-clause-sure
returns-in-Err-clause-sure g c = carried_sure g.D.Disk.image g.D.Disk.moment g.D.Disk.left_since c.args.self.now _ c.self.view_is c.args.planned c.requires.planned c.write.new.disks.first c.write.new.disks.second c.write.new.pair
    (Err c.in-Err.field-0) c.in-Err.ensures.writes

pub returns-in-Err-clause-long : goal.returns-in-Err-clause-long
returns-in-Err-clause-long g c = carried_long g.D.Disk.image g.D.Disk.moment g.D.Disk.left_since c.args.self.now _ c.self.view_is c.args.planned c.requires.planned c.write.new.disks.first c.write.new.disks.second c.write.new.pair
    (Err c.in-Err.field-0) c.in-Err.ensures.writes

pub returns-in-Err-clause-counted : goal.returns-in-Err-clause-counted
returns-in-Err-clause-counted g c = carry_counted g.D.Disk.image g.D.Disk.moment g.D.Disk.left_since c.args.self.now _ c.self.view_is c.args.planned c.requires.planned c.write.new.disks.first c.write.new.disks.second c.write.new.pair
    g.D.Disk.faults (c.in-Err.ensures.faults.failed refl)
