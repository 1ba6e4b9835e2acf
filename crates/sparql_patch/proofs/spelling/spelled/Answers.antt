use Rattle.std.proofs.Common.{drop}
use Rattle.sparql_patch.proofs.NamedLemmas.{spelled_bound}
use Rattle.sparql_patch.proofs.spelling.spelled.Goals as goal

pub returns-clause-bound : goal.returns-clause-bound
returns-clause-bound c =
    spelled_bound c.args.graph.now (drop c.loop-left.left c.as_slice-namings.result.now) c.loop-left.patch c.loop-left.invariant.read.spelled
