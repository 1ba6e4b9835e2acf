use Rattle.std.proofs.Common.{◌≡◌, ◌+◌, ◌∙◌, List, ap, arith, length, subst, sym}
use Rattle.std.specs.Prelude.{sum_by}
use mathlib.Core.List.{IsPrefix}
use Rattle.pod_base.specs.EachTo.{EachTo}
use Rattle.pod_command.specs.declared.entry.Entry.{Entry}
use Rattle.pod_live.specs.declared.session.Seat.{Seat}
use Rattle.pod_live.specs.Locks.{LockState}
use Rattle.pod_live.specs.Visits.{Meets}
use Rattle.pod_live.proofs.live.LiveRounds.gather.Goals as goal

pub returns : goal.returns
returns g c =
    let list = c.tell-front.result in
    let Met = λ (old new : Seat g.row.X.Denot g.row.N.Denot). Meets list old.session new.session × (new.rest ≡ old.rest) in
    let met = subst (λ (ss : List (Seat g.row.X.Denot g.row.N.Denot)). EachTo Met ss c.meet_all.new.seats) c.audit.ensures.seats c.meet_all.ensures in
    let listed = ap length c.tell-front.ensures.list in
    let changes = ap (λ (s : LockState g.row.D.Denot). s.changes) c.locked-2.view_is in
    let grown : length list ≡ length g.N.ViewName.opening + sum_by (λ (s : Seat g.row.X.Denot g.row.N.Denot). s.session.changes) c.args.seats.now = omega (arith, listed, changes, c.locked-2.invariant.0.grown, c.audit.ensures.changes, c.empty-of_changes.ensures.amount) in
    let opening = subst (λ (entries : List Entry). IsPrefix g.N.ViewName.opening entries) (sym c.tell-front.ensures.list) c.tell-front.ensures.opening in
    let faults = ap (λ (s : LockState g.row.D.Denot). s.faults) c.locked-2.view_is in
    let took = c.locked-2.invariant.5 in
    let booked : c.locked-2.inside.faults.total ≡ sum_by (λ (s : Seat g.row.X.Denot g.row.N.Denot). s.session.faults) c.args.seats.now = omega (arith, faults, c.audit.ensures.faults, c.empty-of_faults.ensures.amount) in
    record { one_list = (list, opening, grown, met, record { taken = took.taken; entries = took.entries ∙ sym c.tell-front.ensures.list; faulted = took.faulted ∙ booked; so = (c.locked-2.inside.keeper, took.so) }) }
