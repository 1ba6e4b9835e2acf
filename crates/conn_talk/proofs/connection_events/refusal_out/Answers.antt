use Rattle.std.proofs.Common.{true, ap, ◌∙◌}
use Rattle.http_out.specs.Text.{response_text}
use Rattle.http_out.specs.Calendar.{date_text}
use Rattle.conn_talk.proofs.TurnLemmas.{dated}
use Rattle.conn_talk.proofs.connection_events.refusal_out.Goals as goal

pub returns : goal.returns
returns g c =
    let told = c.new.ensures in
    let moment = c.clock_moment-moment.result.0 in (
      moment,
      c.clock_moment-moment.ensures,
      told.2 ∙ ap (λ date. response_text c.in_ok-response.response date true) (dated moment told.0 told.1)
          ∙ ap (λ r. response_text r (date_text moment) true) c.in_ok-response.ensures.response,
    )
