use Rattle.std.proofs.Common.{◌≡◌, ◌+◌, ◌++◌, [], ◌∷◌, ◌∙◌, ap, sym, subst, List, ℕ, Some, rules}
use Rattle.std.specs.Arc.{arc_value}
use Rattle.pod_command.specs.Bare.{bare_entry}
use Rattle.pod_command.specs.declared.entry.Entry.{Entry}
use Rattle.pod_keeper.specs.KeeperState.{version_in}
use Rattle.pod_live.specs.declared.published_version.Shown.{Shown}
use Rattle.pod_live.specs.Locks.{LockState, IsBooked}
use Rattle.pod_live.specs.Locks.{PlansEntry}
use Rattle.pod_live.specs.Takes.{TookChanges}
use Rattle.pod_live.proofs.BookLemmas.{booked_grown, booked_faulted, stands_next}
use Rattle.pod_live.proofs.TakeLemmas.{took_faulted, took_grown}
use Rattle.pod_pages.specs.State.{states_after, state_after}
use Rattle.token_table.specs.Credentials.{asked_view}
use Rattle.pod_live.proofs.locked_store.Locked+N+D.enter.Goals as goal

pub publish-requires : goal.publish-requires
publish-requires g c = λ x is.
    let opened = g.N.StoreName.opened in
    let planned = c.args.planned in
    let before = c.self.inside.publisher.list in
    let same : x ≡ arc_value c.in-Ok.shown = cc (is, c.prepare.ensures.next) in
    let list : c.prepare.new.self.list ≡ before = search rules in
    let version : arc_value (arc_value c.in-Ok.shown).version ≡ arc_value planned.version = search rules in
    let shown : arc_value x.version ≡ arc_value planned.version = ap (λ (s : Shown g.row.N.Denot). arc_value s.version) same ∙ version in
    let after : arc_value planned.version ≡ state_after (version_in c.self.inside.keeper) (bare_entry planned.entry) =
    c.requires.planned.after ∙ ap (λ (s : LockState g.row.D.Denot). state_after (version_in s.keeper) planned.entry) (sym c.self.view_is) in
    let next = stands_next opened (version_in c.self.inside.keeper) (arc_value x.version) before (bare_entry planned.entry) c.self.invariant.0.version (shown ∙ after) in
    let entered = subst (λ (entry : Entry). arc_value x.version ≡ states_after opened (before ++ bare_entry entry ∷ [])) (sym c.in-Ok-write_planned.ensures.entry) next in
    subst (λ (entries : List Entry). arc_value x.version ≡ states_after opened (entries ++ bare_entry c.in-Ok-write_planned.entry ∷ [])) (sym list) entered

pub invariant_of-self-2 : goal.invariant_of-self-2
invariant_of-self-2 g c =
    let N = g.N.StoreName in
    let planned = c.args.planned in
    let keeper = c.self.inside.keeper in
    let before = c.self.inside.publisher.list in
    let after : version_in c.write_planned.new.self ≡ state_after (version_in keeper) (bare_entry planned.entry) =
    c.in-Ok-write_planned.ensures.after ∙ (c.requires.planned.after ∙ ap (λ (s : LockState g.row.D.Denot). state_after (version_in s.keeper) planned.entry) (sym c.self.view_is)) in
    let grown = booked_grown g.D.Disk.image g.D.Disk.faults N.kept N.safe N.opened g.N.ViewName.opening N.counted keeper c.write_planned.new.self before c.self.inside.changes.total c.self.inside.faults.total c.self.invariant.0
    c.write_planned.ensures.stands c.write_planned.ensures.sure c.write_planned.ensures.long c.write_planned.ensures.no_fewer_first c.write_planned.ensures.no_fewer_second (bare_entry planned.entry) c.in-Ok-write_planned.ensures.grown after in
    let published : c.publish.new.self.list ≡ before ++ bare_entry c.in-Ok-write_planned.entry ∷ [] = search rules in
    let in_list : c.publish.new.self.list ≡ before ++ bare_entry planned.entry ∷ [] = published ∙ ap (λ (entry : Entry). before ++ bare_entry entry ∷ []) c.in-Ok-write_planned.ensures.entry in
    let Booked = λ (list : List Entry) (changes : ℕ). IsBooked g.D.Disk.image g.D.Disk.faults N.kept N.safe N.opened g.N.ViewName.opening N.counted (record { keeper = c.write_planned.new.self; list = list; changes = changes; faults = c.self.inside.faults.total }) in
    let listed = subst (λ (list : List Entry). Booked list (c.self.inside.changes.total + 1)) (sym in_list) grown in
    let asked = asked_view c.args.asked.now in
    let plans = subst (λ (s : LockState g.row.D.Denot). PlansEntry g.D.Disk.image s.keeper c.args.request.now asked c.args.stamp (Some (bare_entry planned.entry))) (sym c.self.view_is) c.requires.plans in
    let took = took_grown g.D.Disk.image g.D.Disk.moment g.D.Disk.left_since g.N.KeeperName.began keeper c.write_planned.new.self before c.self.inside.faults.total c.self.invariant.5 c.args.request.now asked c.args.stamp (bare_entry planned.entry) plans
    c.write_planned.ensures.pairs c.write_planned.ensures.sure c.write_planned.ensures.long c.in-Ok-write_planned.ensures.grown in
    let Took = λ (list : List Entry). TookChanges g.D.Disk.image g.D.Disk.moment g.D.Disk.left_since g.N.KeeperName.began list c.self.inside.faults.total c.write_planned.new.self in
    (subst (λ (changes : ℕ). Booked c.publish.new.self.list changes) (sym c.add-2.ensures.total) listed, c.self.invariant.1, c.self.invariant.2, c.self.invariant.3, c.self.invariant.4, subst Took (sym in_list) took)

pub invariant_of-self : goal.invariant_of-self
invariant_of-self g c =
    let N = g.N.StoreName in
    let before = c.self.inside.publisher.list in
    let failed = booked_faulted g.D.Disk.image g.D.Disk.faults N.kept N.safe N.opened g.N.ViewName.opening N.counted c.self.inside.keeper c.write_planned.new.self before c.self.inside.changes.total c.self.inside.faults.total c.self.invariant.0
    c.write_planned.ensures.stands c.write_planned.ensures.sure c.write_planned.ensures.long c.write_planned.ensures.no_fewer_first c.write_planned.ensures.no_fewer_second (bare_entry c.args.planned.entry) c.in_default-write_planned.ensures.fault c.in_default-write_planned.ensures.same
    c.in_default-write_planned.ensures.counted in
    let list : c.prepare.new.self.list ≡ before = search rules in
    let Booked = λ (list : List Entry) (faults : ℕ). IsBooked g.D.Disk.image g.D.Disk.faults N.kept N.safe N.opened g.N.ViewName.opening N.counted (record { keeper = c.write_planned.new.self; list = list; changes = c.self.inside.changes.total; faults = faults }) in
    let listed = subst (λ (list : List Entry). Booked list (c.self.inside.faults.total + 1)) (sym list) failed in
    let asked = asked_view c.args.asked.now in
    let entry = bare_entry c.args.planned.entry in
    let plans = subst (λ (s : LockState g.row.D.Denot). PlansEntry g.D.Disk.image s.keeper c.args.request.now asked c.args.stamp (Some entry)) (sym c.self.view_is) c.requires.plans in
    let took = took_faulted g.D.Disk.image g.D.Disk.moment g.D.Disk.left_since g.N.KeeperName.began c.self.inside.keeper c.write_planned.new.self before c.self.inside.faults.total c.self.invariant.5 c.args.request.now asked c.args.stamp entry plans
    c.write_planned.ensures.pairs c.write_planned.ensures.sure c.write_planned.ensures.long c.in_default-write_planned.ensures.fault in
    let Took = λ (list : List Entry) (faults : ℕ). TookChanges g.D.Disk.image g.D.Disk.moment g.D.Disk.left_since g.N.KeeperName.began list faults c.write_planned.new.self in
    let took_here = subst (λ (list : List Entry). Took list (c.self.inside.faults.total + 1)) (sym list) took in
    (subst (λ (faults : ℕ). Booked c.prepare.new.self.list faults) (sym c.add.ensures.total) listed, c.self.invariant.1, c.self.invariant.2, c.self.invariant.3, c.self.invariant.4, subst (λ (faults : ℕ). Took c.prepare.new.self.list faults) (sym c.add.ensures.total) took_here)
