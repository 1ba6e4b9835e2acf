use Rattle.std.proofs.Common.{ap, ◌∙◌}
use Rattle.http_out.specs.Text.{response_text}
use Rattle.conn_talk.proofs.TurnLemmas.{dated}
use Rattle.conn_talk.proofs.one_request.answer_out.Goals as goal

pub returns-clause-out : goal.returns-clause-out
returns-clause-out c =
    let told = c.new-out.ensures in
    let answer = c.args.answer in
    told.2 ∙ ap (λ date. response_text answer.response date c.closes_after.result) (dated answer.moment.0 told.0 told.1)
    ∙ ap (response_text answer.response _) c.closes_after.ensures
