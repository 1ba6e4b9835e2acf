use Rattle.std.proofs.Common.{sym, ◌∙◌, ap, ◌++◌}
use Rattle.conditional_req.specs.Conditions.{conditions}
use Rattle.conditional_req.proofs.ConditionLemmas.{one_more}
use Rattle.conditional_req.proofs.precondition_fields.conditions_of.Goals as goal

-- one field more
pub loop-field-preserved : goal.loop-field-preserved
loop-field-preserved c =
    ap (λ kept. kept ++ conditions c.in-Some.more.now) c.in_ok-add_condition.ensures
    ∙ one_more c.loop-field.kept c.in-Some.field.now c.in-Some.more.now
    ∙ ap (λ rest. c.loop-field.kept ++ conditions rest) (sym c.in-Some.ensures.cases.0)
    ∙ c.loop-field.invariant
