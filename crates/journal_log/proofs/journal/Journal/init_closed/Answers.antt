use Rattle.journal_log.proofs.RenewRuns.{closed_from, closed_alone}
use Rattle.journal_log.proofs.journal.Journal.init_closed.Goals as goal

pub returns-clause-closed : goal.returns-clause-closed
returns-clause-closed g c = λ c' now.
    closed_from (g.D.Disk.content c.args.disk.now) c.args.epoch c.head_and_gate.result c' c.requires.most c.head_and_gate.ensures (c.in_ok-write_through.ensures.written c' now)

pub returns-clause-alone : goal.returns-clause-alone
returns-clause-alone g c = λ c' now.
    closed_alone (g.D.Disk.content c.args.disk.now) c.args.epoch c.head_and_gate.result c' c.requires.empty c.head_and_gate.ensures (c.in_ok-write_through.ensures.written c' now)

pub returns-clause-reads : goal.returns-clause-reads
returns-clause-reads g c = λ b visible.
    closed_alone (g.D.Disk.content c.args.disk.now) c.args.epoch c.head_and_gate.result b c.requires.empty c.head_and_gate.ensures (c.in_ok-write_through.ensures.written b (g.D.Disk.reads_image _ b visible))
