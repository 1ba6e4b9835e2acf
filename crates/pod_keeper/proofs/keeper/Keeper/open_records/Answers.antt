use Rattle.pod_keeper.specs.Kept.{certain, StandsForSome}
use Rattle.pod_keeper.specs.OpenedPods.{IsOpened, OpensDisks}
use Rattle.pod_keeper.specs.Stored.{history_of}
use Rattle.pod_keeper.proofs.Opened.{if_ok_is, if_ok_both, if_err_both, is_opened, opens_disks}
use Rattle.pod_keeper.proofs.keeper.Keeper.open_records.Goals as goal

pub returns-in-Ok-clause-opened : goal.returns-in-Ok-clause-opened
returns-in-Ok-clause-opened g c = if_ok_both c.keeper_of.result (λ k. k.0) (λ k. k.1.items) _ c.in-Ok.opened.records.items
    (λ k items. IsOpened g.D.Disk.image (g.D.Disk.content c.args.disks.first) (g.D.Disk.content c.args.disks.second) items k)
    c.keeper_of.ensures.keeper c.keeper_of.ensures.records
    (is_opened g.D.Disk.image c.open_store.new.first c.open_store.new.second c.in-Ok.opened.pair c.in-Ok.opened.reading.version c.in-Ok.opened.reading.last
    (g.D.Disk.content c.args.disks.first) (g.D.Disk.content c.args.disks.second) c.in-Ok.opened.records.items c.in-Ok.ensures.read c.in-Ok.ensures.clean c.in-Ok.ensures.stands)

pub returns-in-Ok-clause-disks : goal.returns-in-Ok-clause-disks
returns-in-Ok-clause-disks g c = if_ok_is c.keeper_of.result (λ k. k.0) _
    (λ k. OpensDisks g.D.Disk.image g.D.Disk.moment g.D.Disk.left_since g.D.Disk.faults c.args.disks.first c.args.disks.second k.first k.second)
    c.keeper_of.ensures.keeper
    (opens_disks g.D.Disk.image g.D.Disk.moment g.D.Disk.left_since g.D.Disk.faults c.args.disks.first c.args.disks.second c.open_store.new.first c.open_store.new.second c.in-Ok.ensures.pairs c.in-Ok.ensures.later_first c.in-Ok.ensures.later_second c.in-Ok.ensures.no_fewer_first c.in-Ok.ensures.no_fewer_second)

pub returns-in-Ok-clause-refused : goal.returns-in-Ok-clause-refused
returns-in-Ok-clause-refused g c = if_err_both c.keeper_of.result (λ r. r.disks.first) (λ r. r.disks.second) c.open_store.new.first c.open_store.new.second
    (λ a b. OpensDisks g.D.Disk.image g.D.Disk.moment g.D.Disk.left_since g.D.Disk.faults c.args.disks.first c.args.disks.second a b)
    c.keeper_of.ensures.first c.keeper_of.ensures.second
    (opens_disks g.D.Disk.image g.D.Disk.moment g.D.Disk.left_since g.D.Disk.faults c.args.disks.first c.args.disks.second c.open_store.new.first c.open_store.new.second c.in-Ok.ensures.pairs c.in-Ok.ensures.later_first c.in-Ok.ensures.later_second c.in-Ok.ensures.no_fewer_first c.in-Ok.ensures.no_fewer_second)

pub returns-in-Err-clause-refused : goal.returns-in-Err-clause-refused
returns-in-Err-clause-refused g c = opens_disks g.D.Disk.image g.D.Disk.moment g.D.Disk.left_since g.D.Disk.faults c.args.disks.first c.args.disks.second c.open_store.new.first c.open_store.new.second c.in-Err.ensures.pairs c.in-Err.ensures.later_first c.in-Err.ensures.later_second c.in-Err.ensures.no_fewer_first c.in-Err.ensures.no_fewer_second

pub returns-in-Ok-clause-stands : goal.returns-in-Ok-clause-stands
returns-in-Ok-clause-stands g c =
    let opened = is_opened g.D.Disk.image c.open_store.new.first c.open_store.new.second c.in-Ok.opened.pair c.in-Ok.opened.reading.version c.in-Ok.opened.reading.last
    (g.D.Disk.content c.args.disks.first) (g.D.Disk.content c.args.disks.second) c.in-Ok.opened.records.items c.in-Ok.ensures.read c.in-Ok.ensures.clean c.in-Ok.ensures.stands in
    if_ok_is c.keeper_of.result (λ k. k.0) _ (StandsForSome g.D.Disk.image) c.keeper_of.ensures.keeper (history_of opened.snapshot opened.entries, opened.snapshot.seq, certain, opened.kept)
