use Rattle.std.proofs.Common.{refl, []}
use Rattle.std.proofs.lemmas.Result.{IfOk-weaker}
use Rattle.http_conn.proofs.StepLemmas.{awaits_none, awaits_body}
use Rattle.http_conn.proofs.head_step.start_body.Goals as goal

-- a body that is complete at once
pub returns-then-is_done-clause-parses : goal.returns-then-is_done-clause-parses
returns-then-is_done-clause-parses c =
    IfOk-weaker c.push_request.result _ _
    (λ new finishes. awaits_none c.args.count c.args.len c.args.head c.args.form c.args.events.now.items c.push_interim.new.events.items c.push_request.new.events.items new c.body-body.result
    c.in_ok-push_interim.ensures (c.body-body.ensures.decodes c.args.form [] c.new-payload.ensures) finishes)
    c.push_request.ensures.ends

-- a body that has not come
pub returns-clause-parses : goal.returns-clause-parses
returns-clause-parses c =
    awaits_body c.args.count c.args.len c.args.head c.args.form c.args.events.now.items c.push_interim.new.events.items
    (record { head = c.args.head; payload = c.new-payload.result; len = c.args.len; count = c.args.count })
    c.in_ok-push_interim.ensures (c.if-is_done.ensures.partial refl c.args.form [] c.new-payload.ensures) c.new-payload.ensures refl refl refl
