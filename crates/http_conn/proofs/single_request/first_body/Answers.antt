use Rattle.std.proofs.Common.{◌≢◌, ℕ, List, [], take, drop, sym, subst}
use Rattle.std.proofs.lemmas.List.{take-append-drop}
use Rattle.http_payload.specs.declared.payload_fault.PayloadFault.TheVariants.{Malformed, TooLarge, NoMemory}
use Rattle.http_payload.specs.Bodies.{IsBody, IsFault, IsPartial}
use Rattle.http_payload.proofs.LawLemmas.{no_body_at_partial, no_fault_at_body}
use Rattle.http_conn.proofs.single_request.first_body.Goals as goal

-- the body is complete
pub returns-then-fed-clause-some : goal.returns-then-fed-clause-some
returns-then-fed-clause-some c = (
  c.in-Ok.ensures.within,
  subst (IsBody c.args.form (take c.in-Ok.fed.taken c.args.bytes.now)) (sym c.body-body.ensures.bytes)
      (c.in-Ok.ensures.whole c.if-fed.true c.args.form [] c.new-payload.ensures),
)

-- it is not, and no other one is
pub returns-in-Ok-clause-none : goal.returns-in-Ok-clause-none
returns-in-Ok-clause-none c size body there whole =
    let bytes : List ℕ = c.args.bytes.now in
    no_body_at_partial c.args.form (take size bytes) (drop size bytes) body
    (subst (IsPartial c.args.form) (sym (take-append-drop size bytes)) (c.in-Ok.ensures.partial c.if-fed.false c.args.form [] c.new-payload.ensures)) whole

pub returns-in-Err-Malformed-clause-none : goal.returns-in-Err-Malformed-clause-none
returns-in-Err-Malformed-clause-none c size body there whole =
    let bytes : List ℕ = c.args.bytes.now in
    let other : Malformed ≢ NoMemory = λ e. cc in
    no_fault_at_body c.args.form (take size bytes) (drop size bytes) body Malformed whole
    (subst (λ t. IsFault c.args.form t Malformed) (sym (take-append-drop size bytes))
    ((rw c.in-Err-Malformed.field-0-is at c.in-Err-Malformed.ensures.fault) other c.args.form [] c.new-payload.ensures))

pub returns-in-Err-TooLarge-clause-none : goal.returns-in-Err-TooLarge-clause-none
returns-in-Err-TooLarge-clause-none c size body there whole =
    let bytes : List ℕ = c.args.bytes.now in
    let other : TooLarge ≢ NoMemory = λ e. cc in
    no_fault_at_body c.args.form (take size bytes) (drop size bytes) body TooLarge whole
    (subst (λ t. IsFault c.args.form t TooLarge) (sym (take-append-drop size bytes))
    ((rw c.in-Err-TooLarge.field-0-is at c.in-Err-TooLarge.ensures.fault) other c.args.form [] c.new-payload.ensures))
