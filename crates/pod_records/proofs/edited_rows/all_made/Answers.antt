use Rattle.std.proofs.Common.{◌∙◌, sym, ap, List}
use Rattle.pod_records.specs.Made.{made_by, found_in, path_of}
use Rattle.pod_records.specs.declared.edited_rows.Made.{Made}
use Rattle.pod_records.proofs.MadeSteps.{made_none, made_next, made_stopped, made_all}
use Rattle.pod_records.proofs.edited_rows.all_made.Goals as goal

pub loop-edit-init : goal.loop-edit-init
loop-edit-init g c = made_none (g.S.PodState.pod c.args.state.now).rows c.new-all.result.items c.is_well_formed.ensures.order c.new-all.ensures.items

pub loop-edit-preserved : goal.loop-edit-preserved
loop-edit-preserved g c =
    made_next (g.S.PodState.pod c.args.state.now).rows c.args.edits.now c.loop-edit.edit-index c.edit-item.result c.loop-edit.all.items _ c.in-Some.next
    c.loop-edit-test.true c.edit-item.is c.loop-edit.invariant
    (ap (λ (ms : List Made). made_by c.edit-item.result (found_in (g.S.PodState.pod c.args.state.now).rows ms (path_of c.edit-item.result))) (sym c.as_slice.ensures.value) ∙ sym c.in_ok-next.ensures ∙ c.in-Some.is) c.in_ok-insert-in-Some.ensures.items

pub returns-in-None-clause-none : goal.returns-in-None-clause-none
returns-in-None-clause-none g c =
    λ none. made_stopped (g.S.PodState.pod c.args.state.now).rows c.args.edits.now c.loop-edit.edit-index c.edit-item.result c.loop-edit.all.items
    c.loop-edit-test.true c.edit-item.is c.loop-edit.invariant (ap (λ (ms : List Made). made_by c.edit-item.result (found_in (g.S.PodState.pod c.args.state.now).rows ms (path_of c.edit-item.result))) (sym c.as_slice.ensures.value) ∙ sym c.in_ok-next.ensures ∙ c.in-None.is)

pub returns-clause-some : goal.returns-clause-some
returns-clause-some g c = made_all (g.S.PodState.pod c.args.state.now).rows c.args.edits.now c.loop-edit.edit-index c.loop-edit.all.items c.loop-edit-test.false c.loop-edit.invariant
