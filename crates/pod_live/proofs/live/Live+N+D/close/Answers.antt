use Rattle.std.proofs.Common.{◌≡◌, ◌+◌, ℕ, List, ap, arith, length, subst, sym}
use Rattle.std.specs.Prelude.{sum_by}
use mathlib.Core.List.{IsPrefix}
use Rattle.pod_base.specs.EachTo.{EachTo}
use Rattle.pod_command.specs.declared.entry.Entry.{Entry}
use Rattle.pod_core.specs.History.{History, longer}
use Rattle.pod_live.specs.declared.session.Seat.{Seat}
use Rattle.pod_live.specs.Locks.{LockState}
use Rattle.pod_live.specs.Stores.{KeptSome}
use Rattle.pod_live.specs.Takes.{TookChanges}
use Rattle.pod_live.specs.Visits.{Meets}
use Rattle.pod_live.proofs.live.Live+N+D.close.Goals as goal

pub returns : goal.returns
returns g c =
    let list = c.tell-front.result in
    let Met = λ (old new : Seat g.row.X.Denot g.row.N.Denot). Meets list old.session new.session × (new.rest ≡ old.rest) in
    let met = subst (λ (ss : List (Seat g.row.X.Denot g.row.N.Denot)). EachTo Met ss c.meet_all.new.seats) c.audit.ensures.seats c.meet_all.ensures in
    let listed = ap length c.tell-front.ensures.list in
    let changes = ap (λ (s : LockState g.row.D.Denot). s.changes) c.locked-2.view_is in
    let grown : length list ≡ length g.N.ViewName.opening + sum_by (λ (s : Seat g.row.X.Denot g.row.N.Denot). s.session.changes) c.args.seats.now = omega (arith, listed, changes, c.locked-2.invariant.0.grown, c.audit.ensures.changes, c.empty-of_changes.ensures.amount) in
    let faults = ap (λ (s : LockState g.row.D.Denot). s.faults) c.locked-2.view_is in
    let stands = λ (h : History) (k : g.N.StoreName.kept h). subst (λ (entries : List Entry). KeptSome g.D.Disk.image c.locked-2.inside.keeper (longer h entries)) (sym c.tell-front.ensures.list) (c.locked-2.invariant.0.stands h k) in
    let opening = subst (λ (entries : List Entry). IsPrefix g.N.ViewName.opening entries) (sym c.tell-front.ensures.list) c.tell-front.ensures.opening in
    let Took = λ (entries : List Entry) (n : ℕ). TookChanges g.D.Disk.image g.D.Disk.moment g.D.Disk.left_since g.N.KeeperName.began entries n c.locked-2.inside.keeper in
    let booked : c.locked-2.inside.faults.total ≡ sum_by (λ (s : Seat g.row.X.Denot g.row.N.Denot). s.session.faults) c.args.seats.now = omega (arith, faults, c.audit.ensures.faults, c.empty-of_faults.ensures.amount) in
    let took = subst (λ (n : ℕ). Took list n) booked (subst (λ (entries : List Entry). Took entries c.locked-2.inside.faults.total) (sym c.tell-front.ensures.list) c.locked-2.invariant.5) in
    record {
      one_list = (list, opening, stands, grown, met, took);
      stands = c.locked-2.invariant.0.some;
      safe = c.locked-2.invariant.0.still_safe;
      faults = λ first second. omega (arith, faults, c.audit.ensures.faults, c.empty-of_faults.ensures.amount, c.locked-2.invariant.0.covers first second);
    }
