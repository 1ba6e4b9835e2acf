use Rattle.std.proofs.Common.{◌∙◌, [], ap, sym, subst}
use Rattle.http_payload.specs.PayloadState.{payload_state, IsSoundAt, first_stage}
use Rattle.http_payload.specs.BodyBytes.{bytes_of_body}
use Rattle.http_payload.proofs.Representation.{represents_first, sound_first}
use Rattle.http_payload.proofs.payload.Payload.new.Goals as goal

pub invariant_of-result : goal.invariant_of-result
invariant_of-result c = (
  subst (λ s. IsSoundAt s c.new.result.items (bytes_of_body c.new-2.result)) (sym c.first-stage.ensures)
      (subst (λ l. IsSoundAt (first_stage c.args.form) l (bytes_of_body c.new-2.result)) (sym c.new.ensures.items)
      (subst (λ b. IsSoundAt (first_stage c.args.form) [] b) (sym c.new-2.ensures.empty) (sound_first c.args.form))),
  c.new-2.ensures.kept,
)

pub returns : goal.returns
returns c =
    represents_first c.args.form _
    (ap (λ s. payload_state s c.new.result.items (bytes_of_body c.new-2.result)) c.first-stage.ensures
    ∙ ap (λ l. payload_state (first_stage c.args.form) l (bytes_of_body c.new-2.result)) c.new.ensures.items
    ∙ ap (λ b. payload_state (first_stage c.args.form) [] b) c.new-2.ensures.empty)
