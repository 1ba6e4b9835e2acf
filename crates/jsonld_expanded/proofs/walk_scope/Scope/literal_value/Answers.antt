use Rattle.jsonld_expanded.proofs.Steps.{handed}
use Rattle.jsonld_expanded.proofs.walk_scope.Scope.literal_value.Goals as goal

pub returns-in_err-literal-clause-out : goal.returns-in_err-literal-clause-out
returns-in_err-literal-clause-out c = λ refused a h b found. c.in_err-literal.ensures.out (handed c.from_residual.result c.in_err-literal.field-0.0 _ c.from_residual.ensures.1 refused) found.0 found.1
