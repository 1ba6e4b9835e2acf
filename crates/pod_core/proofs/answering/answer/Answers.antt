use Rattle.std.proofs.Common.{refl}
use Rattle.pod_reply.specs.Replies.{reply_of}
use Rattle.token_table.specs.Credentials.{asked_view}
use Rattle.pod_core.proofs.Answered.{entry_applies, entry_encodable, is_complete}
use Rattle.pod_core.proofs.answering.answer.Goals as goal

pub returns-clause-applies : goal.returns-clause-applies
returns-clause-applies g c =
    let replied = c.in_ok-replied.replied in
    entry_applies (g.S.PodState.pod c.args.state.now) c.args.request.now (asked_view c.args.asked.now) c.args.seq c.args.stamp (reply_of replied) replied.entry
    c.applies.ensures.applies c.applies.ensures.bare c.is_well_formed.ensures c.in_ok-replied.ensures.reply refl

pub returns-clause-encodable : goal.returns-clause-encodable
returns-clause-encodable g c =
    let replied = c.in_ok-replied.replied in
    entry_encodable (g.S.PodState.pod c.args.state.now) c.args.request.now (asked_view c.args.asked.now) c.args.seq c.args.stamp (reply_of replied) replied.entry
    c.encodable.ensures.encodable c.encodable.ensures.bare c.in_ok-replied.ensures.reply refl

pub returns-clause-sent : goal.returns-clause-sent
returns-clause-sent g c =
    c.sent.ensures (g.S.PodState.pod c.args.state.now) c.args.request.now (asked_view c.args.asked.now) c.args.seq c.args.stamp (reply_of c.in_ok-replied.replied)
    c.is_well_formed.ensures c.in_ok-replied.ensures.reply

pub returns-clause-status : goal.returns-clause-status
returns-clause-status g c =
    c.status.ensures.fails (g.S.PodState.pod c.args.state.now) c.args.request.now (asked_view c.args.asked.now) c.args.seq c.args.stamp (reply_of c.in_ok-replied.replied)
    c.in_ok-replied.ensures.reply

pub returns-clause-complete : goal.returns-clause-complete
returns-clause-complete g c =
    is_complete (g.S.PodState.pod c.args.state.now) c.args.request.now (asked_view c.args.asked.now) c.args.seq c.args.stamp (reply_of c.in_ok-replied.replied)
    c.complete.ensures.reads c.complete.ensures.changes c.in_ok-replied.ensures.reply

pub returns-clause-alike : goal.returns-clause-alike
returns-clause-alike g c = λ other alike.
    c.isolation_law.ensures.replies (g.S.PodState.pod c.args.state.now) other c.args.request.now (asked_view c.args.asked.now) c.args.seq c.args.stamp (reply_of c.in_ok-replied.replied)
    c.is_well_formed.ensures alike c.in_ok-replied.ensures.reply
