use Rattle.graph_patch.proofs.Instancing.{fault_of_mapping}
use Rattle.graph_patch.proofs.patch.instantiate.Goals as goal

pub returns-in-Err-clause-fault : goal.returns-in-Err-clause-fault
returns-in-Err-clause-fault c = fault_of_mapping c.args.graph.now c.args.patch.now c.in-Err.fault c.in-Err.ensures.fault
