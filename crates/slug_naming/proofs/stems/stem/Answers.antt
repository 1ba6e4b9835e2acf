use Rattle.std.proofs.Common.{sym, subst}
use Rattle.pod_path.specs.Hierarchy.{IsPlainName}
use Rattle.slug_naming.proofs.stems.stem.Goals as goal

pub returns-clause-plain : goal.returns-clause-plain
returns-clause-plain c = λ folder. subst (λ text. IsPlainName text folder) (sym c.in_ok-text-2.ensures) (c.in_ok-text.ensures.plain folder)
