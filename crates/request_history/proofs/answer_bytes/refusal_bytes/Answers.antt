use Rattle.std.proofs.Common.{true, ap, sym, subst, ◌≤◌, ◌<◌, ◌∙◌}
use Rattle.http_out.specs.Text.{AreFieldLines, response_text}
use Rattle.http_out.specs.Calendar.{date_text}
use Rattle.pod_base.specs.declared.response.Response.{Response}
use Rattle.request_history.proofs.Dated.{dated, refusal_range}
use Rattle.request_history.proofs.answer_bytes.refusal_bytes.Goals as goal

pub bytes_of-requires : goal.bytes_of-requires
bytes_of-requires c =
    let range = refusal_range c.refusal_statuses.ensures c.requires.0 c.args.status c.requires.1 in
    record {
      status = subst (λ (r : Response). (100 ≤ r.status) × (r.status < 600)) (sym c.in_ok-response.ensures.response) range;
      fields = c.in_ok-response.ensures.lines;
    }

pub returns : goal.returns
returns c =
    let told = c.in_ok-text.ensures in
    told.2 ∙ ap (λ date. response_text c.in_ok-response.response date true) (dated c.args.moment.0 told.0 told.1)
    ∙ ap (λ (r : Response). response_text r (date_text c.args.moment.0) true) c.in_ok-response.ensures.response
