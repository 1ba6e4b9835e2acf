use Rattle.std.proofs.Common.{◌∙◌}
use Rattle.request_history.proofs.recorded_entry.Recorded.copy_entry.Goals as goal

pub returns : goal.returns
returns c = c.in_ok-entry.ensures ∙ c.self.invariant.1 ∙ c.self.view_is
