use Rattle.std.proofs.Common.{ap, ◌∙◌}
use Rattle.http_out.specs.Text.{response_text}
use Rattle.http_out.specs.Calendar.{date_text}
use Rattle.request_history.proofs.Dated.{dated}
use Rattle.request_history.proofs.answer_bytes.response_bytes.Goals as goal

pub returns : goal.returns
returns c =
    let told = c.in_ok-text.ensures in
    let response = c.args.response.now in
    told.2 ∙ ap (λ date. response_text response date c.closes_after-close.result) (dated c.args.moment.0 told.0 told.1)
    ∙ ap (response_text response (date_text c.args.moment.0)) c.closes_after-close.ensures
