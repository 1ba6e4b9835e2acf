use Rattle.std.proofs.Common.{subst}
use Rattle.std.proofs.lemmas.Result.{IfOk-weaker}
use Rattle.pod_follow.specs.Followed.{read_stamp}
use Rattle.pod_reply.specs.Reply.{IsReply}
use Rattle.pod_reply.specs.Replies.{unchanged}
use Rattle.token_table.specs.Credentials.{AskedAgent}
use Rattle.podctl_commands.proofs.follower_reads.response_text.Goals as goal

pub returns : goal.returns
returns c =
    let response = c.in_ok-response.response in
    let follower = c.args.follower.now in
    let read = c.args.read.now in
    IfOk-weaker c.sent_text.result _ _
    (λ text is. record {
      response = response;
      reply = subst (λ (asked : AskedAgent). IsReply follower.pod read.request asked follower.next (read_stamp read.moment) (unchanged response)) c.asked_of-asked.ensures c.in_ok-response.ensures.reply;
      text_is = is;
    })
    c.sent_text.ensures
