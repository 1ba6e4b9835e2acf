use Rattle.std.proofs.Common.{Err, ap}
use Rattle.jsonld_expanded.proofs.walk_scope.Scope.typed.Goals as goal

pub returns-in-Err-clause-out : goal.returns-in-Err-clause-out
returns-in-Err-clause-out c = λ e. let out = c.refusal_of.ensures cc in c.in-Err.ensures.bad_reference.0 (ap (λ f. Err f) out)
