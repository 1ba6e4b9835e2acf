use Rattle.std.proofs.Common.{◌∙◌, sym}
use Rattle.conditional_req.proofs.VerdictLemmas.{ignores_tags}
use Rattle.conditional_req.proofs.precondition_fields.Conditions.compares_tags.Goals as goal

pub returns-clause-ignores : goal.returns-clause-ignores
returns-clause-ignores c = λ h. ignores_tags c.args.self.now (sym c.has_list.ensures ∙ h)
