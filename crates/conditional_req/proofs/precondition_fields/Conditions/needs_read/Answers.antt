use Rattle.std.proofs.Common.{◌∙◌, sym}
use Rattle.conditional_req.proofs.VerdictLemmas.{ignores_state}
use Rattle.conditional_req.proofs.precondition_fields.Conditions.needs_read.Goals as goal

pub returns-clause-ignores : goal.returns-clause-ignores
returns-clause-ignores c = λ h. ignores_state c.args.self.now (sym c.has_other_value.ensures ∙ h)
