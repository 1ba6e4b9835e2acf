use Rattle.std.proofs.Common.{◌≡◌}
use Rattle.graph_patch.specs.declared.pattern.Slot.TheVariants.{Var}
use Rattle.n3_patch.proofs.VariableLemmas.{slot_added}
use Rattle.n3_patch.proofs.free_variables.insert_variable.Goals as goal

pub returns-in_ok-insert-in-Var : goal.returns-in_ok-insert-in-Var
returns-in_ok-insert-in-Var c =
    let is : c.args.slot.now ≡ Var c.in_ok-key-in-Var.key = cc (c.in_ok-key-in-Var.ensures) in
    slot_added c.args.names.now c.insert.new.self c.in_ok-key-in-Var.key c.args.slot.now is c.in_ok-insert-in-Var.ensures.updates.0
