use Rattle.std.proofs.Common.{sym, subst}
use Rattle.journal_log.specs.JournalState.{JournalState}
use Rattle.journal_log.specs.Images.{Stands}
use Rattle.journal_log.proofs.OpenRuns.{opened_run, found_stands}
use Rattle.journal_log.proofs.journal.Journal.open.Goals as goal

pub returns-in_err-normalize_gate-clause-moments : goal.returns-in_err-normalize_gate-clause-moments
returns-in_err-normalize_gate-clause-moments g c = opened_run g.D.Disk.image g.D.Disk.moment g.D.Disk.left_since _ _ _ (g.D.Disk.only_now _) c.read_all.ensures.only_reads c.normalize_gate.ensures.moments

pub returns-clause-moments : goal.returns-clause-moments
returns-clause-moments g c = opened_run g.D.Disk.image g.D.Disk.moment g.D.Disk.left_since _ _ _ (g.D.Disk.only_now _) c.read_all.ensures.only_reads c.normalize_gate.ensures.moments

pub returns-clause-records : goal.returns-clause-records
returns-clause-records g c = λ b visible. subst (λ (h : JournalState). Stands h.format h.epoch c.in_ok-found.found.records.items b) (sym c.new_clean.ensures) (found_stands (g.D.Disk.content c.args.disk.now) c.in_ok-found.found c.in_ok-found.ensures.found b visible)
