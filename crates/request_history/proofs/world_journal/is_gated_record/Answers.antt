use Rattle.request_history.proofs.JournalImages.{gated_yes, gated_no, gated_none}
use Rattle.request_history.proofs.world_journal.is_gated_record.Goals as goal

pub returns-in-Some-clause-yes : goal.returns-in-Some-clause-yes
returns-in-Some-clause-yes c = λ t. gated_yes c.args.body.now c.args.bytes.now c.in-Some.field-0-0.now c.in-Some.rest.now c.in-Some.ensures.cases.0 (c.is_record.ensures.yes t)

pub returns-in-Some-clause-no : goal.returns-in-Some-clause-no
returns-in-Some-clause-no c = λ f h. c.is_record.ensures.no f (gated_no c.args.body.now c.args.bytes.now c.in-Some.field-0-0.now c.in-Some.rest.now c.in-Some.ensures.cases.0 h)

pub returns-in-None-clause-no : goal.returns-in-None-clause-no
returns-in-None-clause-no c = λ f h. gated_none c.args.body.now c.args.bytes.now c.in-None.ensures.cases h
