use Rattle.std.proofs.Common.{◌≡◌, ◌≢◌, ℕ, ◌++◌, List, length, take, refl, sym, ap, subst, ◌∙◌, arith}
use Rattle.std.proofs.Math.Seq.{take-length}
use Rattle.http_payload.specs.declared.payload_fault.PayloadFault.TheVariants.{Malformed, TooLarge, NoMemory}
use Rattle.http_payload.specs.Bodies.{IsBody}
use Rattle.http_payload.specs.PayloadState as payload
use Rattle.http_conn.specs.declared.parser_state.ParserState.TheVariants.{Body}
use Rattle.http_conn.specs.declared.parser_state.PartialBody.{PartialBody}
use Rattle.http_conn.specs.ParserSteps.{StepsTo}
use Rattle.http_conn.proofs.StepLemmas.{body_ends, body_waits, body_refused}
use Rattle.http_conn.proofs.body_step.body_step.Goals as goal

-- the body has ended
pub returns-then-fed-clause-parses : goal.returns-then-fed-clause-parses
returns-then-fed-clause-parses c =
    let bytes : List ℕ = c.args.bytes.now in
    let front : List ℕ = take c.in-Ok.fed.taken bytes in
    body_ends c.args.partial front c.body-body.result c.args.events.now.items c.push_request.new.events.items c.in_ok-next-in-Ok.next
    (λ form text s. subst (IsBody form (text ++ front)) (sym c.body-body.ensures.bytes) (c.in-Ok.ensures.whole c.if-fed.true form text s))
    c.in_ok-next-in-Ok.ensures.ends

-- it goes on
pub returns-in-Ok-clause-parses : goal.returns-in-Ok-clause-parses
returns-in-Ok-clause-parses c =
    let bytes : List ℕ = c.args.bytes.now in
    let old_events = c.args.events.now.items in
    let all : c.in-Ok.fed.taken ≡ length bytes = c.in-Ok.ensures.all c.if-fed.false in
    let front_is : take c.in-Ok.fed.taken bytes ≡ bytes = ap (λ n. take n bytes) all ∙ take-length bytes in
    let new : PartialBody = record { head = c.args.partial.head; payload = c.feed.new.self; len = c.in-Some.len; count = c.args.partial.count } in
    subst (λ front. StepsTo (Body c.args.partial) old_events front (Body new) old_events) (sym front_is)
    (body_waits c.args.partial new bytes old_events refl refl (omega (arith, all, c.in-Some.ensures))
    (λ form text s. c.in-Ok.ensures.partial c.if-fed.false form text s)
    (λ form text s. subst (λ front. payload.RepresentsBody form c.feed.new.self (text ++ front)) front_is (c.in-Ok.ensures.represents form text s)))

-- nothing makes a body of it
pub returns-in-Err-Malformed-clause-parses : goal.returns-in-Err-Malformed-clause-parses
returns-in-Err-Malformed-clause-parses c =
    let bytes : List ℕ = c.args.bytes.now in
    let old_events = c.args.events.now.items in
    let events = c.refuse.new.events.items in
    let other : Malformed ≢ NoMemory = λ e. cc in
    subst (λ front. StepsTo (Body c.args.partial) old_events front c.in_ok-next-in-Err-Malformed.next events) (sym (take-length bytes))
    (subst (λ s. StepsTo (Body c.args.partial) old_events bytes s events) (sym c.in_ok-next-in-Err-Malformed.ensures.closed)
    (body_refused c.args.partial bytes old_events events Malformed ((rw c.in-Err-Malformed.field-0-is at c.in-Err-Malformed.ensures.fault) other) c.in_ok-next-in-Err-Malformed.ensures.pushed))

-- it is too large
pub returns-in-Err-TooLarge-clause-parses : goal.returns-in-Err-TooLarge-clause-parses
returns-in-Err-TooLarge-clause-parses c =
    let bytes : List ℕ = c.args.bytes.now in
    let old_events = c.args.events.now.items in
    let events = c.refuse-in-Err-TooLarge.new.events.items in
    let other : TooLarge ≢ NoMemory = λ e. cc in
    subst (λ front. StepsTo (Body c.args.partial) old_events front c.in_ok-next-in-Err-TooLarge.next events) (sym (take-length bytes))
    (subst (λ s. StepsTo (Body c.args.partial) old_events bytes s events) (sym c.in_ok-next-in-Err-TooLarge.ensures.closed)
    (body_refused c.args.partial bytes old_events events TooLarge ((rw c.in-Err-TooLarge.field-0-is at c.in-Err-TooLarge.ensures.fault) other) c.in_ok-next-in-Err-TooLarge.ensures.pushed))
