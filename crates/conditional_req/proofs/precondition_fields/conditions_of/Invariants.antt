use Rattle.std.proofs.Common.{◌≡◌, ◌++◌, length}
use Rattle.conditional_req.specs.Conditions.{conditions}
use Rattle.conditional_req.proofs.precondition_fields.conditions_of.Given as goal

abbrev pub invariant-loop-field : goal.invariant-loop-field
invariant-loop-field l = l.kept ++ conditions l.rest ≡ conditions l.fields

abbrev pub decreases-loop-field : goal.decreases-loop-field
decreases-loop-field l = length l.rest
