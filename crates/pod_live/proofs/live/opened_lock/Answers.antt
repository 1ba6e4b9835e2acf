use Rattle.std.proofs.Common.{ℕ, List, subst, sym}
use Rattle.pod_command.specs.declared.entry.Entry.{Entry}
use Rattle.pod_live.specs.Locks.{IsBooked}
use Rattle.pod_live.specs.Takes.{TookChanges}
use Rattle.pod_live.proofs.BookLemmas.{booked_opened}
use Rattle.pod_live.proofs.TakeLemmas.{took_none}
use Rattle.pod_live.proofs.live.opened_lock.Goals as goal

pub invariant_of-result : goal.invariant_of-result
invariant_of-result g c =
    let N = g.N.StoreName in
    let opening = g.N.ViewName.opening in
    let booked = booked_opened g.D.Disk.image g.D.Disk.faults N.kept N.safe N.opened opening N.counted c.args.keeper c.requires.opened c.requires.kept c.requires.stands c.requires.safe c.requires.counted c.requires.list.1 in
    let Booked = λ (list : List Entry) (changes : ℕ) (faults : ℕ). IsBooked g.D.Disk.image g.D.Disk.faults N.kept N.safe N.opened opening N.counted (record { keeper = c.args.keeper; list = list; changes = changes; faults = faults }) in
    let listed = subst (λ (list : List Entry). Booked list 0 0) (sym c.requires.list.0) booked in
    let with_changes = subst (λ (changes : ℕ). Booked c.args.publisher.list changes 0) (sym c.requires.totals.0) listed in
    let with_faults = subst (λ (faults : ℕ). Booked c.args.publisher.list c.args.changes.total faults) (sym c.requires.totals.1) with_changes in
    let Took = λ (list : List Entry) (faults : ℕ). TookChanges g.D.Disk.image g.D.Disk.moment g.D.Disk.left_since g.N.KeeperName.began list faults c.args.keeper in
    let took = took_none g.D.Disk.image g.D.Disk.moment g.D.Disk.left_since g.N.KeeperName.began c.args.keeper c.requires.began in
    let took_list = subst (λ (list : List Entry). Took list 0) (sym c.requires.list.0) took in
    (with_faults, c.requires.no_changes.0, c.requires.no_changes.1, c.requires.no_faults.0, c.requires.no_faults.1, subst (λ (faults : ℕ). Took c.args.publisher.list faults) (sym c.requires.totals.1) took_list)
