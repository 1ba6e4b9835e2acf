use Rattle.sparql_patch.proofs.OneAnswer.{only}
use Rattle.sparql_patch.proofs.reading.read.Goals as goal

pub returns-clause-only : goal.returns-clause-only
returns-clause-only c = only c.args.base.now c.args.bytes.now c.read_named.result c.read_named.ensures.names c.read_named.ensures.fault
