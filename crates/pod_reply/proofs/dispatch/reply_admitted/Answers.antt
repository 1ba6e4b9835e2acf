use Rattle.std.proofs.Common.{List, ℕ, Ok, ap, sym, ◌∙◌}
use Rattle.request_target.specs.Admission.{admitted}
use Rattle.token_table.specs.Credentials.{asked_view}
use Rattle.pod_reply.proofs.DispatchLemmas.{admitted_allowed}
use Rattle.pod_reply.proofs.dispatch.reply_admitted.Goals as goal

pub reply_at-requires : goal.reply_at-requires
reply_at-requires g c =
    admitted_allowed (g.S.PodState.pod c.args.state.now).base c.args.request.now (asked_view c.args.asked.now) c.in-Ok-Resource.path
    (sym (c.in_ok-path.ensures.admitted ∙ ap (λ (base : List ℕ). admitted base c.args.request.now (asked_view c.args.asked.now)) c.base.ensures)
    ∙ c.in-Ok-Resource.is ∙ ap Ok c.in-Ok-Resource.field-0-is)
