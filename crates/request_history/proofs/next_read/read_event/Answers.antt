use Rattle.std.proofs.Common.{Some, suc, subst, rules}
use Rattle.pod_base.specs.declared.heard.Heard.{Heard}
use Rattle.pod_base.specs.declared.heard.Heard.TheVariants as heard
use Rattle.request_history.proofs.Looks.{look_change, look_interim, look_read, look_refused, only_next}
use Rattle.request_history.proofs.Replies.{stamp_is}
use Rattle.request_history.specs.Connections.{HasNext}
use Rattle.request_history.specs.Worlds.{asking_of}
use Rattle.request_history.proofs.next_read.read_event.Goals as goal

pub refuse-requires : goal.refuse-requires
refuse-requires c =
    let h = subst (λ (e : Heard). HasNext c.args.from.now (Some e)) c.in-Bad.is c.requires.next in
    (c.args.from.now, h.is)

pub returns-then-is_change : goal.returns-then-is_change
returns-then-is_change c =
    let h = subst (λ (e : Heard). HasNext c.args.from.now (Some e)) c.in-Request.is c.requires.next in
    look_change (asking_of c.args.tokens.now) c.args.keeper.now.history (suc c.args.conn) c.args.place c.args.moment.0 c.args.from.now c.in-Request.request (only_next c.args.from.now (heard.Request c.in-Request.request) h) (search rules)

pub returns-in_ok-answer-in-Request : goal.returns-in_ok-answer-in-Request
returns-in_ok-answer-in-Request c =
    let h = subst (λ (e : Heard). HasNext c.args.from.now (Some e)) c.in-Request.is c.requires.next in
    look_read (asking_of c.args.tokens.now) c.args.keeper.now.history (suc c.args.conn) c.args.place c.args.moment.0 c.args.from.now c.in-Request.request
    _ c.in_ok-answer-in-Request.answer (stamp_is c.args.conn c.number.result c.args.moment.0 c.args.from.now c.number.ensures) c.in_ok-answer-in-Request.ensures
    h.is (only_next c.args.from.now (heard.Request c.in-Request.request) h) (search rules)

pub returns-in_ok-answer-in-Bad : goal.returns-in_ok-answer-in-Bad
returns-in_ok-answer-in-Bad c =
    let h = subst (λ (e : Heard). HasNext c.args.from.now (Some e)) c.in-Bad.is c.requires.next in
    look_refused (asking_of c.args.tokens.now) c.args.keeper.now.history (suc c.args.conn) c.args.place c.args.moment.0 c.args.from.now
    _ c.in_ok-answer-in-Bad.answer c.in_ok-answer-in-Bad.ensures.text c.in_ok-answer-in-Bad.ensures.switched h.is (only_next c.args.from.now _ h)

pub returns-in-Interim : goal.returns-in-Interim
returns-in-Interim c =
    let h = subst (λ (e : Heard). HasNext c.args.from.now (Some e)) c.in-Interim.is c.requires.next in
    look_interim (asking_of c.args.tokens.now) c.args.keeper.now.history (suc c.args.conn) c.args.place c.args.moment.0 c.args.from.now (only_next c.args.from.now heard.Interim h)
