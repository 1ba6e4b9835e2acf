use Rattle.std.proofs.Common.{List, subst}
use Rattle.std.specs.Prelude.{IfSome, IfNone}
use Rattle.turtle_reader.specs.declared.kept_meanings.Kept.{Kept}
use Rattle.turtle_reader.specs.Kept.{FindsIn, Has}
use Rattle.turtle_reader.proofs.kept_meanings.KeptMeanings.meaning.Goals as goal

pub returns-clause-found : goal.returns-clause-found
returns-clause-found c =
    subst (λ (list : List Kept). IfSome c.find.result (λ m. FindsIn list c.args.index m.now)) c.as_slice.ensures.value c.find.ensures.found

pub returns-clause-none : goal.returns-clause-none
returns-clause-none c =
    subst (λ (list : List Kept). IfNone c.find.result (Has c.args.index list → ⊥)) c.as_slice.ensures.value c.find.ensures.none
