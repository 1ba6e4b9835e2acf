use Rattle.std.proofs.Common.{Option, subst, sym}
use Rattle.pod_base.specs.declared.heard.Heard.{Heard}
use Rattle.request_history.proofs.Takes.{nothing_next}
use Rattle.request_history.proofs.next_change.change_next.Goals as goal

pub change_of-requires-clause-next : goal.change_of-requires-clause-next
change_of-requires-clause-next c = c.in-Some.ensures

pub returns-in-None : goal.returns-in-None
returns-in-None c = nothing_next c.args.from.now c.in-None.ensures
