use Rattle.std.proofs.Common.{ℕ, ◌∙◌}
use Rattle.pod_feed.proofs.TurnLemmas.{look_ends, look_fails, look_reports}
use Rattle.pod_feed.proofs.version_report.look_for_news.Goals as goal

pub returns-in-Ok-clause-report : goal.returns-in-Ok-clause-report
returns-in-Ok-clause-report g c = look_reports g.N.StoreName.opened c.args.last c.args.topic.now c.args.agent.now c.args.session.now c.look.new.self c.deref.result.now c.report_of.result (c.deref.ensures ∙ c.in-Ok.ensures.version) c.in-Ok.ensures.looked c.report_of.ensures.report

pub returns-in-Ok-clause-end : goal.returns-in-Ok-clause-end
returns-in-Ok-clause-end g c = look_ends g.N.StoreName.opened c.args.last c.args.topic.now c.args.agent.now c.args.session.now c.look.new.self c.deref.result.now c.report_of.result (c.deref.ensures ∙ c.in-Ok.ensures.version) c.in-Ok.ensures.looked c.report_of.ensures.end

pub returns-in-Err-clause-end : goal.returns-in-Err-clause-end
returns-in-Err-clause-end g c = look_fails g.N.StoreName.opened c.args.last c.args.topic.now c.args.agent.now c.args.session.now c.look.new.self ℕ c.in-Err.fault c.end_of_fault.result c.end_of_fault.ensures c.in-Err.ensures.looked c.in-Err.ensures.refused
