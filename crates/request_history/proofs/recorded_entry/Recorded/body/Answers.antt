use Rattle.std.proofs.Common.{◌∙◌, ap}
use Rattle.stored_forms.specs.StoredForms.{entry_bytes}
use Rattle.request_history.proofs.recorded_entry.Recorded.body.Goals as goal

pub returns : goal.returns
returns c = c.as_slice.ensures ∙ c.self.invariant.0 ∙ ap entry_bytes c.self.view_is
