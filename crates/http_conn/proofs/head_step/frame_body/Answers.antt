use Rattle.std.proofs.Common.{sym}
use Rattle.std.proofs.lemmas.Result.{IfOk-weaker}
use Rattle.http_conn.specs.ParserSteps.{StepsAfterHead}
use Rattle.http_conn.proofs.StepLemmas.{if_refused, refuses_conflict, refuses_coding, refuses_large}
use Rattle.http_conn.proofs.head_step.frame_body.Goals as goal

pub returns-in-Ok-clause-parses : goal.returns-in-Ok-clause-parses
returns-in-Ok-clause-parses c = IfOk-weaker c.start_body.result _ _ (λ new waits left ends says len_is. waits left ends says (sym c.in-Ok.ensures) len_is) c.start_body.ensures.parses

-- fields that contradict each other
pub returns-in-Err-Conflict-clause-parses : goal.returns-in-Err-Conflict-clause-parses
returns-in-Err-Conflict-clause-parses c =
    if_refused (λ new. StepsAfterHead c.args.count c.args.len c.args.head c.args.events.now.items new c.refuse.new.events.items) c.refuse.result
    (refuses_conflict c.args.count c.args.len c.args.head c.args.events.now.items c.refuse.new.events.items (sym (rw c.in-Err-Conflict.field-0-is at c.in-Err-Conflict.ensures)))
    c.refuse.ensures.pushed c.refuse.ensures.closed

pub returns-in-Err-Coding-clause-parses : goal.returns-in-Err-Coding-clause-parses
returns-in-Err-Coding-clause-parses c =
    if_refused (λ new. StepsAfterHead c.args.count c.args.len c.args.head c.args.events.now.items new c.refuse-in-Err-Coding.new.events.items) c.refuse-in-Err-Coding.result
    (refuses_coding c.args.count c.args.len c.args.head c.args.events.now.items c.refuse-in-Err-Coding.new.events.items (sym (rw c.in-Err-Coding.field-0-is at c.in-Err-Coding.ensures)))
    c.refuse-in-Err-Coding.ensures.pushed c.refuse-in-Err-Coding.ensures.closed

pub returns-clause-parses : goal.returns-clause-parses
returns-clause-parses c =
    if_refused (λ new. StepsAfterHead c.args.count c.args.len c.args.head c.args.events.now.items new c.refuse-in-Err-TooLarge.new.events.items) c.refuse-in-Err-TooLarge.result
    (refuses_large c.args.count c.args.len c.args.head c.args.events.now.items c.refuse-in-Err-TooLarge.new.events.items (sym (rw c.in-Err-TooLarge.field-0-is at c.in-Err-TooLarge.ensures)))
    c.refuse-in-Err-TooLarge.ensures.pushed c.refuse-in-Err-TooLarge.ensures.closed
