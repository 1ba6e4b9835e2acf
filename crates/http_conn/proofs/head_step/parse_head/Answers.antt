use Rattle.std.proofs.Common.{◌-◌, length, refl, ap}
use Rattle.std.proofs.lemmas.Result.{IfOk-weaker}
use Rattle.http_conn.specs.ParserSteps.{StepsAfter}
use Rattle.http_conn.proofs.StepLemmas.{if_refused, refuses_many, refuses_malformed, refuses_host}
use Rattle.http_conn.proofs.head_step.parse_head.Goals as goal

-- a head without a fault
pub returns-in-Ok-clause-parses : goal.returns-in-Ok-clause-parses
returns-in-Ok-clause-parses c =
    IfOk-weaker c.frame_body.result _ _
    (λ new goes. goes c.args.bytes.now c.requires c.in-Ok.ensures.ok (ap (λ b. length c.args.bytes.now - b) c.blank_length.ensures.exact))
    c.frame_body.ensures.parses

pub returns-in-Err-TooMany-clause-parses : goal.returns-in-Err-TooMany-clause-parses
returns-in-Err-TooMany-clause-parses c =
    if_refused (λ new. StepsAfter c.args.count c.args.bytes.now c.args.events.now.items new c.refuse.new.events.items) c.refuse.result
    (refuses_many c.args.count c.args.bytes.now c.args.events.now.items c.refuse.new.events.items c.requires
    ((rw c.in-Err-TooMany.field-0-is at c.in-Err-TooMany.ensures.too_many) refl))
    c.refuse.ensures.pushed c.refuse.ensures.closed

pub returns-in-Err-Malformed-clause-parses : goal.returns-in-Err-Malformed-clause-parses
returns-in-Err-Malformed-clause-parses c =
    if_refused (λ new. StepsAfter c.args.count c.args.bytes.now c.args.events.now.items new c.refuse-in-Err-Malformed.new.events.items) c.refuse-in-Err-Malformed.result
    (refuses_malformed c.args.count c.args.bytes.now c.args.events.now.items c.refuse-in-Err-Malformed.new.events.items c.requires
    ((rw c.in-Err-Malformed.field-0-is at c.in-Err-Malformed.ensures.malformed) refl))
    c.refuse-in-Err-Malformed.ensures.pushed c.refuse-in-Err-Malformed.ensures.closed

pub returns-in-Err-Host-clause-parses : goal.returns-in-Err-Host-clause-parses
returns-in-Err-Host-clause-parses c =
    if_refused (λ new. StepsAfter c.args.count c.args.bytes.now c.args.events.now.items new c.refuse-in-Err-Host.new.events.items) c.refuse-in-Err-Host.result
    (refuses_host c.args.count c.args.bytes.now c.args.events.now.items c.refuse-in-Err-Host.new.events.items c.requires
    ((rw c.in-Err-Host.field-0-is at c.in-Err-Host.ensures.host) refl))
    c.refuse-in-Err-Host.ensures.pushed c.refuse-in-Err-Host.ensures.closed
