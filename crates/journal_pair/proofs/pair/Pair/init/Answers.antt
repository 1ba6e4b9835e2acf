use Rattle.journal_pair.proofs.Beside.{closed_passed, closed_class, closed_long}
use Rattle.journal_log.specs.declared.fault.Side.TheVariants.{First}
use Rattle.journal_pair.proofs.pair.Pair.init.Goals as goal

pub returns-clause-passed : goal.returns-clause-passed
returns-clause-passed g c = λ c' now. closed_passed First c.in_ok-journal.journal.epoch c' (closed_class c' (c.in_ok-init_closed.ensures.closed c' now))

pub returns-clause-long : goal.returns-clause-long
returns-clause-long g c = λ c' now. closed_long c' (closed_class c' (c.in_ok-init_closed.ensures.closed c' now))
