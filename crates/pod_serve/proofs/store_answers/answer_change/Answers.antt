use Rattle.std.proofs.Common.{Err, ap}
use Rattle.token_table.specs.Credentials.{asked_view}
use Rattle.pod_serve.proofs.StoreAnswerLemmas.{change_answered, change_faulted, change_starved}
use Rattle.pod_serve.proofs.store_answers.answer_change.Goals as goal

pub returns-in-Ok-clause-turned : goal.returns-in-Ok-clause-turned
returns-in-Ok-clause-turned g c =
    change_answered g.N.StoreName.kept g.N.StoreName.opened.next c.args.request.now (asked_view c.args.asked.now) c.args.stamp c.args.session.now c.commit.new.session c.in-Ok.answer.response c.in-Ok.answer.place c.in-Ok.answer.moment c.requires c.in-Ok.ensures.changed

pub returns-in-Err-NoMemory-clause-turned : goal.returns-in-Err-NoMemory-clause-turned
returns-in-Err-NoMemory-clause-turned g c =
    change_starved g.N.StoreName.kept g.N.StoreName.opened.next c.args.request.now (asked_view c.args.asked.now) c.args.stamp c.args.session.now c.commit.new.session c.requires (c.in-Err-NoMemory.ensures.memory (ap (λ e. Err e) c.in-Err-NoMemory.field-0-is))

pub returns-in-Err-DiskFault-clause-turned : goal.returns-in-Err-DiskFault-clause-turned
returns-in-Err-DiskFault-clause-turned g c =
    change_faulted g.N.StoreName.kept g.N.StoreName.opened.next c.args.request.now (asked_view c.args.asked.now) c.args.stamp c.args.session.now c.commit.new.session c.requires (c.in-Err-DiskFault.ensures.fault (ap (λ e. Err e) c.in-Err-DiskFault.field-0-is)) (c.in-Err-DiskFault.ensures.fault_at (ap (λ e. Err e) c.in-Err-DiskFault.field-0-is))
