use Rattle.std.proofs.Common.{ℕ}
use Rattle.token_table.specs.Credentials.{asked_view}
use Rattle.pod_serve.proofs.StoreAnswerLemmas.{look_made, read_answered, read_starved}
use Rattle.pod_serve.proofs.store_answers.answer_read.Goals as goal

pub returns-in-Ok-clause-turned : goal.returns-in-Ok-clause-turned
returns-in-Ok-clause-turned g c =
    let told = c.in-Ok.ensures in
    read_answered g.N.StoreName.kept g.N.StoreName.opened.next c.args.request.now (asked_view c.args.asked.now) c.args.stamp c.args.session.now c.read.new.self c.in-Ok.answer.response c.in-Ok.answer.place c.in-Ok.answer.moment c.requires told.read told.place told.moment told.looked

pub returns-in-Err-NoMemory-clause-turned : goal.returns-in-Err-NoMemory-clause-turned
returns-in-Err-NoMemory-clause-turned g c =
    read_starved g.N.StoreName.kept g.N.StoreName.opened.next c.args.request.now (asked_view c.args.asked.now) c.args.stamp c.args.session.now c.read.new.self c.requires (look_made ℕ c.in-Err-NoMemory.field-0 c.args.session.now c.read.new.self c.in-Err-NoMemory.field-0-is c.in-Err-NoMemory.ensures.looked)
