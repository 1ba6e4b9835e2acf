use Rattle.std.proofs.Common.{◌∙◌, sym, subst}
use Rattle.http_payload.specs.PayloadState.{IsSoundAt}
use Rattle.http_payload.specs.BodyBytes.{bytes_of_body}
use Rattle.http_payload.proofs.payload.Payload.copy.Goals as goal

pub invariant_of-result : goal.invariant_of-result
invariant_of-result c = (
  subst (λ b. IsSoundAt c.self.inside.stage c.in_ok-line.line.items b) (sym c.in_ok-body.ensures.same)
      (subst (λ l. IsSoundAt c.self.inside.stage l (bytes_of_body c.self.inside.body))
      (sym (c.in_ok-line.ensures.items ∙ c.as_slice.ensures.value)) c.self.invariant.0),
  c.in_ok-body.ensures.kept c.self.inside.stage c.self.invariant.1,
)
