use Rattle.std.proofs.Common.{◌⊎◌, Ok, Err, Some, refl, sym, subst, ap}
use Rattle.std.specs.Arc.{arc_value}
use Rattle.journal_log.specs.declared.fault.DiskFault.{DiskFault}
use Rattle.journal_pair.specs.Writes.{Readies}
use Rattle.pod_base.specs.Counts.{CountIncreased}
use Rattle.pod_pages.specs.State.{VersionState}
use Rattle.pod_keeper.specs.Kept.{StandsForSome}
use Rattle.pod_keeper.specs.KeeperState.{KeeperState}
use Rattle.pod_keeper.proofs.EnteredEntries.{known_records}
use Rattle.pod_keeper.proofs.Carried.{untouched_as}
use Rattle.pod_keeper.proofs.Checkpoints.{checkpoint_made, checkpoint_failed, checkpoint_leaves, checkpoint_sure, checkpoint_long, stands_checkpointed, stands_not_checkpointed}
use Rattle.pod_records.specs.Records.{IsSnapshotText}
use Rattle.pod_keeper.proofs.keeper.Keeper.renew.Goals as goal

pub checkpoint-requires-clause-known : goal.checkpoint-requires-clause-known
checkpoint-requires-clause-known g c =
    let stands = subst (StandsForSome g.D.Disk.image) (sym c.self.view_is) c.requires.stands in
    known_records g.D.Disk.image g.D.Disk.moment g.D.Disk.left_since _ stands.0 stands.1 stands.2 stands.3

pub returns-clause-pairs : goal.returns-clause-pairs
returns-clause-pairs g c = λ history place doubt kept sure long. untouched_as g.D.Disk.image g.D.Disk.moment g.D.Disk.left_since c.args.self.now g.D.Disk.only_now history place doubt kept sure

pub returns-in-Ok-checkpoint-clause-pairs : goal.returns-in-Ok-checkpoint-clause-pairs
returns-in-Ok-checkpoint-clause-pairs g c = λ history place doubt kept. checkpoint_leaves g.D.Disk.image g.D.Disk.moment g.D.Disk.left_since c.args.self.now c.in-Ok.snapshot (subst (λ (s : KeeperState g.row.D.Denot). IsSnapshotText s.pod s.next c.in-Ok.snapshot) c.self.view_is (subst (λ (v : VersionState). IsSnapshotText v.pod v.next c.in-Ok.snapshot) c.deref.ensures c.in-Ok.ensures)) history place doubt kept (record { first = c.checkpoint.new.disks.first; second = c.checkpoint.new.disks.second; pair = c.checkpoint.new.pair; pod = (arc_value c.self.inside.version).pod; next = (arc_value c.self.inside.version).next; effects = (arc_value c.self.inside.version).effects; oldest = (arc_value c.self.inside.version).oldest; last = c.self.inside.last }) {T = Unit {0}} {E = DiskFault} (Ok c.in-Ok-checkpoint.field-0) (subst (λ (s : KeeperState g.row.D.Denot). Readies g.D.Disk.image g.D.Disk.moment g.D.Disk.left_since s.first s.second c.checkpoint.new.disks.first c.checkpoint.new.disks.second s.pair c.checkpoint.new.pair {T = Unit {0}} {E = DiskFault} (Ok c.in-Ok-checkpoint.field-0) (Some c.in-Ok.snapshot)) c.self.view_is c.in-Ok-checkpoint.ensures.readies)

pub returns-in-Ok-checkpoint-clause-sure : goal.returns-in-Ok-checkpoint-clause-sure
returns-in-Ok-checkpoint-clause-sure g c = checkpoint_sure g.D.Disk.image g.D.Disk.moment g.D.Disk.left_since c.args.self.now (record { first = c.checkpoint.new.disks.first; second = c.checkpoint.new.disks.second; pair = c.checkpoint.new.pair; pod = (arc_value c.self.inside.version).pod; next = (arc_value c.self.inside.version).next; effects = (arc_value c.self.inside.version).effects; oldest = (arc_value c.self.inside.version).oldest; last = c.self.inside.last }) c.in-Ok.snapshot {T = Unit {0}} {E = DiskFault} (Ok c.in-Ok-checkpoint.field-0) (subst (λ (s : KeeperState g.row.D.Denot). Readies g.D.Disk.image g.D.Disk.moment g.D.Disk.left_since s.first s.second c.checkpoint.new.disks.first c.checkpoint.new.disks.second s.pair c.checkpoint.new.pair {T = Unit {0}} {E = DiskFault} (Ok c.in-Ok-checkpoint.field-0) (Some c.in-Ok.snapshot)) c.self.view_is c.in-Ok-checkpoint.ensures.readies)

pub returns-in-Ok-checkpoint-clause-long : goal.returns-in-Ok-checkpoint-clause-long
returns-in-Ok-checkpoint-clause-long g c = checkpoint_long g.D.Disk.image g.D.Disk.moment g.D.Disk.left_since c.args.self.now (record { first = c.checkpoint.new.disks.first; second = c.checkpoint.new.disks.second; pair = c.checkpoint.new.pair; pod = (arc_value c.self.inside.version).pod; next = (arc_value c.self.inside.version).next; effects = (arc_value c.self.inside.version).effects; oldest = (arc_value c.self.inside.version).oldest; last = c.self.inside.last }) c.in-Ok.snapshot {T = Unit {0}} {E = DiskFault} (Ok c.in-Ok-checkpoint.field-0) (subst (λ (s : KeeperState g.row.D.Denot). Readies g.D.Disk.image g.D.Disk.moment g.D.Disk.left_since s.first s.second c.checkpoint.new.disks.first c.checkpoint.new.disks.second s.pair c.checkpoint.new.pair {T = Unit {0}} {E = DiskFault} (Ok c.in-Ok-checkpoint.field-0) (Some c.in-Ok.snapshot)) c.self.view_is c.in-Ok-checkpoint.ensures.readies)

pub returns-in-Ok-checkpoint-clause-done : goal.returns-in-Ok-checkpoint-clause-done
returns-in-Ok-checkpoint-clause-done g c = λ history place doubt kept. checkpoint_made g.D.Disk.image g.D.Disk.moment g.D.Disk.left_since c.args.self.now c.in-Ok.snapshot (subst (λ (s : KeeperState g.row.D.Denot). IsSnapshotText s.pod s.next c.in-Ok.snapshot) c.self.view_is (subst (λ (v : VersionState). IsSnapshotText v.pod v.next c.in-Ok.snapshot) c.deref.ensures c.in-Ok.ensures)) history place doubt kept (record { first = c.checkpoint.new.disks.first; second = c.checkpoint.new.disks.second; pair = c.checkpoint.new.pair; pod = (arc_value c.self.inside.version).pod; next = (arc_value c.self.inside.version).next; effects = (arc_value c.self.inside.version).effects; oldest = (arc_value c.self.inside.version).oldest; last = c.self.inside.last }) (ap (λ (s : KeeperState g.row.D.Denot). s.pod) c.self.view_is) (ap (λ (s : KeeperState g.row.D.Denot). s.next) c.self.view_is) (ap (λ (s : KeeperState g.row.D.Denot). s.last) c.self.view_is) (ap (λ (s : KeeperState g.row.D.Denot). s.effects) c.self.view_is, ap (λ (s : KeeperState g.row.D.Denot). s.oldest) c.self.view_is) {T = Unit {0}} {E = DiskFault} c.in-Ok-checkpoint.field-0 (subst (λ (s : KeeperState g.row.D.Denot). Readies g.D.Disk.image g.D.Disk.moment g.D.Disk.left_since s.first s.second c.checkpoint.new.disks.first c.checkpoint.new.disks.second s.pair c.checkpoint.new.pair {T = Unit {0}} {E = DiskFault} (Ok c.in-Ok-checkpoint.field-0) (Some c.in-Ok.snapshot)) c.self.view_is c.in-Ok-checkpoint.ensures.readies)

pub returns-in-Ok-checkpoint-clause-stands : goal.returns-in-Ok-checkpoint-clause-stands
returns-in-Ok-checkpoint-clause-stands g c = stands_checkpointed g.D.Disk.image c.args.self.now (record { first = c.checkpoint.new.disks.first; second = c.checkpoint.new.disks.second; pair = c.checkpoint.new.pair; pod = (arc_value c.self.inside.version).pod; next = (arc_value c.self.inside.version).next; effects = (arc_value c.self.inside.version).effects; oldest = (arc_value c.self.inside.version).oldest; last = c.self.inside.last }) (λ history place doubt kept. checkpoint_made g.D.Disk.image g.D.Disk.moment g.D.Disk.left_since c.args.self.now c.in-Ok.snapshot (subst (λ (s : KeeperState g.row.D.Denot). IsSnapshotText s.pod s.next c.in-Ok.snapshot) c.self.view_is (subst (λ (v : VersionState). IsSnapshotText v.pod v.next c.in-Ok.snapshot) c.deref.ensures c.in-Ok.ensures)) history place doubt kept (record { first = c.checkpoint.new.disks.first; second = c.checkpoint.new.disks.second; pair = c.checkpoint.new.pair; pod = (arc_value c.self.inside.version).pod; next = (arc_value c.self.inside.version).next; effects = (arc_value c.self.inside.version).effects; oldest = (arc_value c.self.inside.version).oldest; last = c.self.inside.last }) (ap (λ (s : KeeperState g.row.D.Denot). s.pod) c.self.view_is) (ap (λ (s : KeeperState g.row.D.Denot). s.next) c.self.view_is) (ap (λ (s : KeeperState g.row.D.Denot). s.last) c.self.view_is) (ap (λ (s : KeeperState g.row.D.Denot). s.effects) c.self.view_is, ap (λ (s : KeeperState g.row.D.Denot). s.oldest) c.self.view_is) {T = Unit {0}} {E = DiskFault} c.in-Ok-checkpoint.field-0 (subst (λ (s : KeeperState g.row.D.Denot). Readies g.D.Disk.image g.D.Disk.moment g.D.Disk.left_since s.first s.second c.checkpoint.new.disks.first c.checkpoint.new.disks.second s.pair c.checkpoint.new.pair {T = Unit {0}} {E = DiskFault} (Ok c.in-Ok-checkpoint.field-0) (Some c.in-Ok.snapshot)) c.self.view_is c.in-Ok-checkpoint.ensures.readies)) c.requires.stands

pub returns-in-Ok-clause-pairs : goal.returns-in-Ok-clause-pairs
returns-in-Ok-clause-pairs g c = λ history place doubt kept. checkpoint_leaves g.D.Disk.image g.D.Disk.moment g.D.Disk.left_since c.args.self.now c.in-Ok.snapshot (subst (λ (s : KeeperState g.row.D.Denot). IsSnapshotText s.pod s.next c.in-Ok.snapshot) c.self.view_is (subst (λ (v : VersionState). IsSnapshotText v.pod v.next c.in-Ok.snapshot) c.deref.ensures c.in-Ok.ensures)) history place doubt kept (record { first = c.checkpoint.new.disks.first; second = c.checkpoint.new.disks.second; pair = c.checkpoint.new.pair; pod = (arc_value c.self.inside.version).pod; next = (arc_value c.self.inside.version).next; effects = (arc_value c.self.inside.version).effects; oldest = (arc_value c.self.inside.version).oldest; last = c.self.inside.last }) {T = Unit {0}} {E = DiskFault} (Err c.in-Err-checkpoint.field-0) (subst (λ (s : KeeperState g.row.D.Denot). Readies g.D.Disk.image g.D.Disk.moment g.D.Disk.left_since s.first s.second c.checkpoint.new.disks.first c.checkpoint.new.disks.second s.pair c.checkpoint.new.pair {T = Unit {0}} {E = DiskFault} (Err c.in-Err-checkpoint.field-0) (Some c.in-Ok.snapshot)) c.self.view_is c.in-Err-checkpoint.ensures.readies)

pub returns-in-Ok-clause-sure : goal.returns-in-Ok-clause-sure
returns-in-Ok-clause-sure g c = checkpoint_sure g.D.Disk.image g.D.Disk.moment g.D.Disk.left_since c.args.self.now (record { first = c.checkpoint.new.disks.first; second = c.checkpoint.new.disks.second; pair = c.checkpoint.new.pair; pod = (arc_value c.self.inside.version).pod; next = (arc_value c.self.inside.version).next; effects = (arc_value c.self.inside.version).effects; oldest = (arc_value c.self.inside.version).oldest; last = c.self.inside.last }) c.in-Ok.snapshot {T = Unit {0}} {E = DiskFault} (Err c.in-Err-checkpoint.field-0) (subst (λ (s : KeeperState g.row.D.Denot). Readies g.D.Disk.image g.D.Disk.moment g.D.Disk.left_since s.first s.second c.checkpoint.new.disks.first c.checkpoint.new.disks.second s.pair c.checkpoint.new.pair {T = Unit {0}} {E = DiskFault} (Err c.in-Err-checkpoint.field-0) (Some c.in-Ok.snapshot)) c.self.view_is c.in-Err-checkpoint.ensures.readies)

pub returns-in-Ok-clause-long : goal.returns-in-Ok-clause-long
returns-in-Ok-clause-long g c = checkpoint_long g.D.Disk.image g.D.Disk.moment g.D.Disk.left_since c.args.self.now (record { first = c.checkpoint.new.disks.first; second = c.checkpoint.new.disks.second; pair = c.checkpoint.new.pair; pod = (arc_value c.self.inside.version).pod; next = (arc_value c.self.inside.version).next; effects = (arc_value c.self.inside.version).effects; oldest = (arc_value c.self.inside.version).oldest; last = c.self.inside.last }) c.in-Ok.snapshot {T = Unit {0}} {E = DiskFault} (Err c.in-Err-checkpoint.field-0) (subst (λ (s : KeeperState g.row.D.Denot). Readies g.D.Disk.image g.D.Disk.moment g.D.Disk.left_since s.first s.second c.checkpoint.new.disks.first c.checkpoint.new.disks.second s.pair c.checkpoint.new.pair {T = Unit {0}} {E = DiskFault} (Err c.in-Err-checkpoint.field-0) (Some c.in-Ok.snapshot)) c.self.view_is c.in-Err-checkpoint.ensures.readies)

pub returns-in-Ok-clause-fault : goal.returns-in-Ok-clause-fault
returns-in-Ok-clause-fault g c = λ _ history place doubt kept. checkpoint_failed g.D.Disk.image g.D.Disk.moment g.D.Disk.left_since c.args.self.now c.in-Ok.snapshot (subst (λ (s : KeeperState g.row.D.Denot). IsSnapshotText s.pod s.next c.in-Ok.snapshot) c.self.view_is (subst (λ (v : VersionState). IsSnapshotText v.pod v.next c.in-Ok.snapshot) c.deref.ensures c.in-Ok.ensures)) history place doubt kept (record { first = c.checkpoint.new.disks.first; second = c.checkpoint.new.disks.second; pair = c.checkpoint.new.pair; pod = (arc_value c.self.inside.version).pod; next = (arc_value c.self.inside.version).next; effects = (arc_value c.self.inside.version).effects; oldest = (arc_value c.self.inside.version).oldest; last = c.self.inside.last }) (ap (λ (s : KeeperState g.row.D.Denot). s.pod) c.self.view_is) (ap (λ (s : KeeperState g.row.D.Denot). s.next) c.self.view_is) (ap (λ (s : KeeperState g.row.D.Denot). s.last) c.self.view_is) (ap (λ (s : KeeperState g.row.D.Denot). s.effects) c.self.view_is, ap (λ (s : KeeperState g.row.D.Denot). s.oldest) c.self.view_is) {T = Unit {0}} {E = DiskFault} c.in-Err-checkpoint.field-0 (subst (λ (s : KeeperState g.row.D.Denot). Readies g.D.Disk.image g.D.Disk.moment g.D.Disk.left_since s.first s.second c.checkpoint.new.disks.first c.checkpoint.new.disks.second s.pair c.checkpoint.new.pair {T = Unit {0}} {E = DiskFault} (Err c.in-Err-checkpoint.field-0) (Some c.in-Ok.snapshot)) c.self.view_is c.in-Err-checkpoint.ensures.readies)

pub returns-in-Ok-clause-stands : goal.returns-in-Ok-clause-stands
returns-in-Ok-clause-stands g c = stands_not_checkpointed g.D.Disk.image c.args.self.now (record { first = c.checkpoint.new.disks.first; second = c.checkpoint.new.disks.second; pair = c.checkpoint.new.pair; pod = (arc_value c.self.inside.version).pod; next = (arc_value c.self.inside.version).next; effects = (arc_value c.self.inside.version).effects; oldest = (arc_value c.self.inside.version).oldest; last = c.self.inside.last }) (λ history place doubt kept. checkpoint_failed g.D.Disk.image g.D.Disk.moment g.D.Disk.left_since c.args.self.now c.in-Ok.snapshot (subst (λ (s : KeeperState g.row.D.Denot). IsSnapshotText s.pod s.next c.in-Ok.snapshot) c.self.view_is (subst (λ (v : VersionState). IsSnapshotText v.pod v.next c.in-Ok.snapshot) c.deref.ensures c.in-Ok.ensures)) history place doubt kept (record { first = c.checkpoint.new.disks.first; second = c.checkpoint.new.disks.second; pair = c.checkpoint.new.pair; pod = (arc_value c.self.inside.version).pod; next = (arc_value c.self.inside.version).next; effects = (arc_value c.self.inside.version).effects; oldest = (arc_value c.self.inside.version).oldest; last = c.self.inside.last }) (ap (λ (s : KeeperState g.row.D.Denot). s.pod) c.self.view_is) (ap (λ (s : KeeperState g.row.D.Denot). s.next) c.self.view_is) (ap (λ (s : KeeperState g.row.D.Denot). s.last) c.self.view_is) (ap (λ (s : KeeperState g.row.D.Denot). s.effects) c.self.view_is, ap (λ (s : KeeperState g.row.D.Denot). s.oldest) c.self.view_is) {T = Unit {0}} {E = DiskFault} c.in-Err-checkpoint.field-0 (subst (λ (s : KeeperState g.row.D.Denot). Readies g.D.Disk.image g.D.Disk.moment g.D.Disk.left_since s.first s.second c.checkpoint.new.disks.first c.checkpoint.new.disks.second s.pair c.checkpoint.new.pair {T = Unit {0}} {E = DiskFault} (Err c.in-Err-checkpoint.field-0) (Some c.in-Ok.snapshot)) c.self.view_is c.in-Err-checkpoint.ensures.readies)) c.requires.stands

pub returns-in-Ok-clause-counted : goal.returns-in-Ok-clause-counted
returns-in-Ok-clause-counted g c = λ _. subst (λ (s : KeeperState g.row.D.Denot). CountIncreased (g.D.Disk.faults s.first) (g.D.Disk.faults c.checkpoint.new.disks.first) ⊎ CountIncreased (g.D.Disk.faults s.second) (g.D.Disk.faults c.checkpoint.new.disks.second)) c.self.view_is (c.in-Err-checkpoint.ensures.faults.failed refl)
