use Rattle.std.proofs.Common.{Some, suc, subst, rules}
use Rattle.pod_base.specs.declared.heard.Heard.{Heard}
use Rattle.pod_base.specs.declared.heard.Heard.TheVariants as heard
use Rattle.pod_core.specs.World.{IsNextEvent}
use Rattle.request_history.proofs.Looks.{only_next}
use Rattle.request_history.proofs.Replies.{changes_as, stamp_is}
use Rattle.request_history.proofs.Takes.{bad_next, interim_next, no_change}
use Rattle.request_history.specs.Connections.{HasNext}
use Rattle.request_history.specs.Worlds.{asking_of}
use Rattle.request_history.proofs.next_change.change_of.Goals as goal

pub returns-then-not-is_change : goal.returns-then-not-is_change
returns-then-not-is_change c =
    let h = subst (λ (e : Heard). HasNext c.args.from.now (Some e)) c.in-Request.is c.requires.next in
    no_change c.args.from.now c.in-Request.request (only_next c.args.from.now (heard.Request c.in-Request.request) h) (search rules)

pub returns-in_ok-change-in-Request : goal.returns-in_ok-change-in-Request
returns-in_ok-change-in-Request c =
    let h = subst (λ (e : Heard). HasNext c.args.from.now (Some e)) c.in-Request.is c.requires.next in
    changes_as (asking_of c.args.tokens.now) c.args.keeper.now.history (suc c.args.conn) c.args.moment.0 c.args.from.now c.in-Request.request h.is (search rules)
    _ (stamp_is c.args.conn c.number.result c.args.moment.0 c.args.from.now c.number.ensures) c.in_ok-change-in-Request.change c.in_ok-change-in-Request.ensures

pub returns-in-Bad : goal.returns-in-Bad
returns-in-Bad c =
    let h = subst (λ (e : Heard). HasNext c.args.from.now (Some e)) c.in-Bad.is c.requires.next in
    bad_next c.args.from.now _ (only_next c.args.from.now _ h)

pub returns-in-Interim : goal.returns-in-Interim
returns-in-Interim c =
    let h = subst (λ (e : Heard). HasNext c.args.from.now (Some e)) c.in-Interim.is c.requires.next in
    interim_next c.args.from.now (only_next c.args.from.now heard.Interim h)
