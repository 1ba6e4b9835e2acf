use Rattle.std.proofs.Common.{refl}
use Rattle.pod_core.specs.History.{pod_at}
use Rattle.pod_reply.specs.Replies.{reply_of}
use Rattle.token_table.specs.Credentials.{asked_view}
use Rattle.request_history.proofs.Replies.{reply_as}
use Rattle.request_history.specs.Worlds.{asking_of}
use Rattle.request_history.proofs.next_read.read.Goals as goal

pub returns : goal.returns
returns c =
    let history = c.args.keeper.now.history in
    let request = c.args.request.now in
    let reply = reply_of c.in_ok-replied.replied in
    record {
      reply = reply;
      is_reply = reply_as request reply c.version.result.now.pod (pod_at history c.args.place) (asked_view c.agent_of-asked.result) (asking_of c.args.tokens.now request) c.args.place c.args.place c.args.stamp c.args.stamp
          c.version.ensures.pod c.agent_of-asked.ensures refl refl c.in_ok-replied.ensures.reply;
      text = c.in_ok-text.ensures;
      switched = c.switches.ensures;
    }
