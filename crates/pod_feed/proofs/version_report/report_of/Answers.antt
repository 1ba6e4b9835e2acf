use Rattle.pod_feed.proofs.TurnLemmas.{ends_so, reports_so}
use Rattle.pod_feed.proofs.version_report.report_of.Goals as goal

pub returns-in-Ok-clause-report : goal.returns-in-Ok-clause-report
returns-in-Ok-clause-report c = reports_so c.args.version.now c.args.last c.args.topic.now c.args.agent.now c.in-Ok.news c.seq.result c.reported.result c.in-Ok.ensures c.seq.ensures.next c.reported.ensures

pub returns-in-Ok-clause-end : goal.returns-in-Ok-clause-end
returns-in-Ok-clause-end c = ends_so c.args.version.now c.args.last c.args.topic.now c.args.agent.now c.in-Ok.news c.seq.result c.reported.result c.in-Ok.ensures c.reported.ensures
