use Rattle.std.proofs.Common.{drop, subst}
use Rattle.journal_log.specs.Scanning.{IsStart}
use Rattle.journal_log.specs.declared.frame_scan.Start.{Start}
use Rattle.journal_log.proofs.frame_scan.frame_at.Goals as goal

pub returns-in-End-clause-is : goal.returns-in-End-clause-is
returns-in-End-clause-is g c = λ b visible. subst (λ (s : Start). IsStart s (drop c.args.at b)) c.in-End.is (c.in_ok-start_at.ensures.is b visible)

pub returns-in-Broken-clause-is : goal.returns-in-Broken-clause-is
returns-in-Broken-clause-is g c = λ b visible. subst (λ (s : Start). IsStart s (drop c.args.at b)) c.in-Broken.is (c.in_ok-start_at.ensures.is b visible)
