use Rattle.std.proofs.Common.{false, ap, ◌∙◌}
use Rattle.std.proofs.lemmas.Result.{IfOk-weaker}
use Rattle.conn_talk.proofs.TurnLemmas.{dated}
use Rattle.http_out.specs.Text.{response_text}
use Rattle.podctl_commands.proofs.follower_reads.sent_text.Goals as goal

pub returns : goal.returns
returns c =
    IfOk-weaker c.bytes_of.result _ _
    (λ text is. is.2 ∙ ap (λ date. response_text c.args.response.now date false) (dated c.args.moment.0 is.0 is.1))
    c.bytes_of.ensures
