use Rattle.patch_outcome.proofs.OneOutcome.{one_patch_outcome, one_update_outcome}
use Rattle.patch_outcome.proofs.laws.one_outcome.Goals as goal

pub returns : goal.returns
returns c = record { patch = one_patch_outcome; update = one_update_outcome }
