use Rattle.request_history.proofs.JournalImages.{record_yes, record_no, record_none}
use Rattle.request_history.proofs.world_journal.is_record.Goals as goal

pub returns-in-Some-clause-yes : goal.returns-in-Some-clause-yes
returns-in-Some-clause-yes c = λ t. record_yes c.args.body.now c.args.bytes.now c.to_be_bytes.result c.to_be_bytes.ensures c.in-Some.rest.now c.in-Some.ensures.some (c.is_closed.ensures.yes t)

pub returns-in-Some-clause-no : goal.returns-in-Some-clause-no
returns-in-Some-clause-no c = λ f h. c.is_closed.ensures.no f (record_no c.args.body.now c.args.bytes.now c.to_be_bytes.result c.to_be_bytes.ensures c.in-Some.rest.now c.in-Some.ensures.some h)

pub returns-in-None-clause-no : goal.returns-in-None-clause-no
returns-in-None-clause-no c = λ f h. record_none c.args.body.now c.args.bytes.now c.to_be_bytes.result c.to_be_bytes.ensures c.in-None.ensures.none h
