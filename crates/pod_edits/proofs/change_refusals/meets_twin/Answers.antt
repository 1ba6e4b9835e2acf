use Rattle.std.proofs.Common.{ap, sym, ◌∙◌, true, false}
use Rattle.std.specs.List.{list_any}
use Rattle.pod_edits.proofs.Places.{has_twin_row, twin_here, twin_above, any_at, any_all}
use Rattle.pod_edits.proofs.change_refusals.meets_twin.Goals as goal

pub returns-then-branch : goal.returns-then-branch
returns-then-branch g c = twin_here (g.S.PodState.pod c.args.state.now) c.args.path.now c.in_ok-meets_own_twin.field-0 c.in_ok-meets_own_twin.ensures c.if-branch.true

pub returns-then-branch-2 : goal.returns-then-branch-2
returns-then-branch-2 g c =
    let pod = g.S.PodState.pod c.args.state.now in
    twin_above pod c.args.path.now c.args.place.now c.in_ok-meets_own_twin.field-0 true c.is_well_formed.ensures c.requires c.in_ok-meets_own_twin.ensures c.if-branch.false
    (ap (list_any (has_twin_row pod.rows)) (sym c.as_slice-container-items.ensures)
    ∙ any_at (has_twin_row pod.rows) c.as_slice-container-items.result.now c.loop-container.container-index c.container-item.result c.loop-container-test.true c.container-item.is
    (sym c.in_ok-meets_own_twin-2.ensures ∙ c.if-branch-2.true))

pub returns : goal.returns
returns g c =
    let pod = g.S.PodState.pod c.args.state.now in
    twin_above pod c.args.path.now c.args.place.now c.in_ok-meets_own_twin.field-0 false c.is_well_formed.ensures c.requires c.in_ok-meets_own_twin.ensures c.if-branch.false
    (ap (list_any (has_twin_row pod.rows)) (sym c.as_slice-container-items.ensures)
    ∙ any_all (has_twin_row pod.rows) c.as_slice-container-items.result.now c.loop-container.container-index c.loop-container-test.false c.loop-container.invariant)
