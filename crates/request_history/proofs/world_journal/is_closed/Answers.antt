use Rattle.request_history.proofs.JournalImages.{closed_yes, closed_no, closed_none}
use Rattle.request_history.proofs.world_journal.is_closed.Goals as goal

pub returns-in-Some-clause-yes : goal.returns-in-Some-clause-yes
returns-in-Some-clause-yes c = λ t. closed_yes c.args.journal.now c.args.image.now c.in-Some.rest.now c.in-Some.ensures.some (c.is_gate_closed.ensures.yes t)

pub returns-in-Some-clause-no : goal.returns-in-Some-clause-no
returns-in-Some-clause-no c = λ f h. c.is_gate_closed.ensures.no f (closed_no c.args.journal.now c.args.image.now c.in-Some.rest.now c.in-Some.ensures.some h)

pub returns-in-None-clause-no : goal.returns-in-None-clause-no
returns-in-None-clause-no c = λ f h. closed_none c.args.journal.now c.args.image.now c.in-None.ensures.none h
