use Rattle.std.proofs.lemmas.Result.{on_ok_weaker}
use Rattle.n3_patch.proofs.VariableLemmas.{slots_added}
use Rattle.n3_patch.proofs.free_variables.insert_variables.Goals as goal

pub returns : goal.returns
returns c = on_ok_weaker c.insert_variable-3.result
    (λ last. slots_added c.args.pattern.now c.args.names.now c.insert_variable.new.names c.insert_variable-2.new.names c.insert_variable-3.new.names
    c.in_ok-insert_variable.ensures c.in_ok-insert_variable-2.ensures last) c.insert_variable-3.ensures
