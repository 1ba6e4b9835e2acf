use Rattle.std.proofs.Common.{sym, subst, List}
use Rattle.std.proofs.lemmas.Result.{IfOk-weaker}
use Rattle.pod_command.specs.declared.edit.Edit.{Edit}
use Rattle.pod_records.specs.Made.{HasMade}
use Rattle.pod_records.proofs.Whole.{edits_from}
use Rattle.pod_records.proofs.fitting.edits_made_fit.Goals as goal

pub returns-in-Some-clause-sound : goal.returns-in-Some-clause-sound
returns-in-Some-clause-sound g c =
    let rows = (g.S.PodState.pod c.args.state.now).rows in
    IfOk-weaker c.stays_well_formed.result _ _
    (λ r s t. edits_from (g.S.PodState.pod c.args.state.now) c.args.entry.now.edits.items c.as_slice-in-Some.result.now
    (subst (λ (steps : List Edit). HasMade rows steps c.as_slice-in-Some.result.now) c.as_slice.ensures
    (subst (HasMade rows c.as_slice.result.now) (sym c.as_slice-in-Some.ensures.value) (rw c.in-Some.is at c.in_ok-made.ensures.some)))
    (s t))
    c.stays_well_formed.ensures.sound
