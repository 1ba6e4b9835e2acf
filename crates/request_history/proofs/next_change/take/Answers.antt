use Rattle.std.proofs.Common.{◌∙◌, ap}
use Rattle.pod_core.specs.History.{pod_at}
use Rattle.pod_reply.specs.Replies.{reply_of}
use Rattle.token_table.specs.Credentials.{asked_view}
use Rattle.request_history.proofs.KeeperMoves.{end_place}
use Rattle.request_history.proofs.Replies.{bare_applies_if, reply_becomes}
use Rattle.request_history.specs.Answers.{asked_by}
use Rattle.request_history.specs.Worlds.{asking_of}
use Rattle.request_history.proofs.next_change.take.Goals as goal

pub version-requires : goal.version-requires
version-requires c = end_place c.args.keeper.now.history c.end-place.result c.end-place.ensures

pub returns : goal.returns
returns c =
    let history = c.args.keeper.now.history in
    let reply = reply_of c.in_ok-replied.replied in
    reply_becomes history c.args.request.now (asking_of c.args.tokens.now) c.args.stamp c.stamp_at_end-stamp.result c.stamp_at_end-stamp.ensures
    (asked_by c.in_ok-requester.requester) (c.in_ok-requester.ensures ∙ c.agent_of-asked.ensures) c.end-place.result c.end-place.ensures reply
    c.args.conn c.requires c.in_ok-change.change c.version.result.now.pod (asked_view c.agent_of-asked.result) c.version.ensures.pod c.agent_of-asked.ensures c.in_ok-replied.ensures.reply
    (bare_applies_if c.version.result.now.pod c.end-place.result c.in_ok-replied.replied.entry c.in_ok-replied.ensures.applies)
    c.in_ok-change.ensures
