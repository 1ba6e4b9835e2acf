use Rattle.std.proofs.Common.{◌∙◌}
use Rattle.request_history.proofs.Fed.{represents_as}
use Rattle.request_history.proofs.connection_input.Input.copy.Goals as goal

pub invariant_of-result : goal.invariant_of-result
invariant_of-result c =
    let i = c.self.inside in
    represents_as i.parser c.in_ok-parser.parser i.bytes c.in_ok-bytes.bytes i.events.items c.in_ok-events.events.items c.in_ok-parser.ensures c.in_ok-bytes.ensures (c.in_ok-events.ensures ∙ c.as_slice.ensures.value) c.self.invariant

pub returns : goal.returns
returns c = (λ i. record { bytes = c.in_ok-bytes.ensures i; events = (c.in_ok-events.ensures ∙ c.as_slice.ensures.value) i }) ∙ c.self.view_is
