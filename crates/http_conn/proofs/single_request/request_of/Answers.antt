use Rattle.std.proofs.Common.{◌≡◌, ◌⊎◌, ◌≤◌, ◌<◌, true, false, ℕ, List, length, take, drop, sym, ap, subst, ◌∙◌}
use Rattle.http_head.specs.Persistence.{closes}
use Rattle.http_payload.specs.Bodies.{IsBody}
use Rattle.http_conn.specs.SingleRequest.{AreEmptyLines}
use Rattle.http_conn.proofs.SingleRequestLemmas.{is_one_request, waits_not_one, no_body_not_one, more_not_one}
use Rattle.http_conn.proofs.single_request.request_of.Goals as goal

-- it waits for an interim
pub returns-then-expects_continue-clause-none : goal.returns-then-expects_continue-clause-none
returns-then-expects_continue-clause-none c =
    let first = c.args.first in
    waits_not_one c.args.bytes.now first.len first.head first.form c.requires.begins (sym c.if-expects_continue.ensures)

-- its body is not complete
pub returns-in-None-clause-none : goal.returns-in-None-clause-none
returns-in-None-clause-none c =
    let first = c.args.first in
    let none = rw c.in-None.is at c.in_ok-first_body.ensures.none in
    no_body_not_one c.args.bytes.now first.len first.head first.form c.requires.begins
    (λ size body there whole. none size body (subst (λ (t : List ℕ). size ≤ length t) (sym c.suffix-rest.ensures) there)
    (subst (λ t. IsBody first.form (take size t) body) (sym c.suffix-rest.ensures) whole))

-- it is alone
pub returns-then-ends_text-clause-some : goal.returns-then-ends_text-clause-some
returns-then-ends_text-clause-some c =
    let first = c.args.first in
    let size = c.in-Some.size in
    let found = rw c.in-Some.is at c.in_ok-first_body.ensures.some in
    let rest_is : c.suffix.result.now ≡ drop size (drop first.len c.args.bytes.now) = c.suffix.ensures ∙ ap (drop size) c.suffix-rest.ensures in
    let ends = c.ends_text.ensures.yes c.if-ends_text.true in
    is_one_request c.args.bytes.now first.len first.head first.form c.requires.begins size c.in-Some.body
    (subst (λ (t : List ℕ). size ≤ length t) c.suffix-rest.ensures found.0)
    (subst (λ t. IsBody first.form (take size t) c.in-Some.body) c.suffix-rest.ensures found.1)
    (sym c.if-expects_continue.ensures) (subst AreEmptyLines rest_is ends.0)
    (subst (λ (t : List ℕ). (closes first.head.minor first.head.fields ≡ true) ⊎ (length t < 16_384)) rest_is ends.1)

-- more follows it
pub returns-else-ends_text-clause-none : goal.returns-else-ends_text-clause-none
returns-else-ends_text-clause-none c =
    let first = c.args.first in
    let size = c.in-Some.size in
    let found = rw c.in-Some.is at c.in_ok-first_body.ensures.some in
    let rest_is : c.suffix.result.now ≡ drop size (drop first.len c.args.bytes.now) = c.suffix.ensures ∙ ap (drop size) c.suffix-rest.ensures in
    more_not_one c.args.bytes.now first.len first.head first.form c.requires.begins size c.in-Some.body
    (subst (λ (t : List ℕ). size ≤ length t) c.suffix-rest.ensures found.0)
    (subst (λ t. IsBody first.form (take size t) c.in-Some.body) c.suffix-rest.ensures found.1)
    (subst (λ t. AreEmptyLines t → (closes first.head.minor first.head.fields ≡ false) × (16_384 ≤ length t)) rest_is
    (c.ends_text.ensures.no c.if-ends_text.false))
