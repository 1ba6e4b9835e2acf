use Rattle.std.proofs.Common.{List, subst}
use Rattle.graph_patch.specs.Pattern.{IsVariableOf}
use Rattle.graph_patch.specs.declared.pattern.Pattern.{Pattern}
use Rattle.n3_patch.specs.VariableNames.{AddsNames}
use Rattle.n3_patch.proofs.VariableLemmas.{next_added, none_added}
use Rattle.n3_patch.proofs.free_variables.insert_all.Goals as goal

pub loop-pattern-preserved : goal.loop-pattern-preserved
loop-pattern-preserved c = λ after h. c.loop-pattern.invariant after
    (next_added c.as_slice-slice.result.now c.loop-pattern.pattern-index c.pattern-item.result c.loop-pattern.names c.insert_variables.new.names after
    c.loop-pattern-test.true c.pattern-item.is c.in_ok-insert_variables.ensures h)

pub returns : goal.returns
returns c = subst (λ (ps : List Pattern). AddsNames c.args.names.now (IsVariableOf ps) c.loop-pattern.names) c.as_slice-slice.ensures
    (c.loop-pattern.invariant c.loop-pattern.names
    (none_added c.as_slice-slice.result.now c.loop-pattern.pattern-index c.loop-pattern.names c.loop-pattern-test.false))
