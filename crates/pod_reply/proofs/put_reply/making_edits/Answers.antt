use Rattle.std.proofs.Common.{Bool, cond, sym, ap, ◌∙◌}
use Rattle.std.proofs.lemmas.Result.{IfOk-weaker}
use Rattle.pod_edits.specs.Edits.{creation_edits, put_edits}
use Rattle.pod_reply.specs.PutReplies.{making_edits}
use Rattle.pod_reply.proofs.put_reply.making_edits.Goals as goal

pub returns-else-is_auxiliary : goal.returns-else-is_auxiliary
returns-else-is_auxiliary g c =
    let pod = g.S.PodState.pod c.args.state.now in
    let new = rw c.in-Some.is at c.requires in
    IfOk-weaker c.creation.result _ _
    (λ edits e. e pod.rows new.1 ∙ sym (ap (λ (b : Bool). cond b (put_edits c.args.row) (creation_edits pod.rows c.args.row)) (sym c.is_auxiliary.ensures.is ∙ c.if-is_auxiliary.false))
    ∙ ap (making_edits pod c.args.row) (sym new.0))
    c.creation.ensures
