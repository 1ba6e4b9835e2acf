use Rattle.std.proofs.Common.{inl, inr}
use Rattle.patch_outcome.proofs.patch_outcomes.change_under.Goals as goal

pub check-requires-clause-deletions : goal.check-requires-clause-deletions
check-requires-clause-deletions c =
    λ name h. (c.requires.only.solution.variables name).1 (c.requires.bound name (inl h))

pub check-requires-clause-insertions : goal.check-requires-clause-insertions
check-requires-clause-insertions c =
    λ name h. (c.requires.only.solution.variables name).1 (c.requires.bound name (inr h))

pub change-requires-clause-deletions : goal.change-requires-clause-deletions
change-requires-clause-deletions c =
    λ name h. (c.requires.only.solution.variables name).1 (c.requires.bound name (inl h))

pub change-requires-clause-insertions : goal.change-requires-clause-insertions
change-requires-clause-insertions c =
    λ name h. (c.requires.only.solution.variables name).1 (c.requires.bound name (inr h))
