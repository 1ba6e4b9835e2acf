use Rattle.std.proofs.Common.{refl}
use Rattle.pod_path.proofs.Ancestors.{under_root}
use Rattle.pod_path.proofs.laws.ancestors_end_at_the_root.Goals as goal

pub returns-clause-root : goal.returns-clause-root
returns-clause-root c = under_root

pub returns-clause-none : goal.returns-clause-none
returns-clause-none c = refl
