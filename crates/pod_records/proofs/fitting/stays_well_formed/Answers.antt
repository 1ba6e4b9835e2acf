use Rattle.std.proofs.Common.{◌∙◌, sym}
use Rattle.std.proofs.lemmas.Result.{IfOk-weaker}
use Rattle.pod_records.proofs.Fine.{sound, complete_fine, complete_room}
use Rattle.pod_records.proofs.fitting.stays_well_formed.Goals as goal

pub returns-then-not-has_room-clause-complete : goal.returns-then-not-has_room-clause-complete
returns-then-not-has_room-clause-complete g c =
    λ edits h w. sym (sym c.has_room.ensures ∙ c.if-not-has_room.true) ∙ complete_room (g.S.PodState.pod c.args.state.now) edits c.args.made.now c.is_well_formed.ensures h w

pub returns-clause-sound : goal.returns-clause-sound
returns-clause-sound g c =
    IfOk-weaker c.are_fine.result _ _
    (λ r e t edits h. sound (g.S.PodState.pod c.args.state.now) edits c.args.made.now c.is_well_formed.ensures h (sym c.has_room.ensures ∙ c.if-not-has_room.false) (sym e ∙ t))
    c.are_fine.ensures

pub returns-clause-complete : goal.returns-clause-complete
returns-clause-complete g c =
    IfOk-weaker c.are_fine.result _ _ (λ r e edits h w. e ∙ complete_fine (g.S.PodState.pod c.args.state.now) edits c.args.made.now h w) c.are_fine.ensures
