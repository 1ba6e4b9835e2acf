use Rattle.n3_patch.proofs.VariableLemmas.{bound_if}
use Rattle.n3_patch.proofs.free_variables.is_bound.Goals as goal

pub returns : goal.returns
returns c =
    let if_subset = bound_if c.args.patch.now c.new-bound.result c.insert_all.new.names c.new-used.result c.insert_all-2.new.names c.insert_all-3.new.names
    c.new-bound.ensures.empty c.in_ok-insert_all.ensures c.new-used.ensures.empty c.in_ok-insert_all-2.ensures c.in_ok-insert_all-3.ensures in
    (λ h. if_subset.0 (c.is_subset.ensures.0 h), λ h. c.is_subset.ensures.1 (if_subset.1 h))
