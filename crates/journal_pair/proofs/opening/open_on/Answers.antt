use Rattle.std.proofs.Common.{ap, ◌∙◌}
use Rattle.journal_log.specs.JournalState.{JournalState}
use Rattle.journal_pair.proofs.PairOpening.{store_cause, opened_passed, opened_stands, never_other}
use Rattle.journal_pair.proofs.opening.open_on.Goals as goal

pub returns-in-Some-clause-passed : goal.returns-in-Some-clause-passed
returns-in-Some-clause-passed g c =
    let is = c.in-Some.ensures.some in
    opened_passed g.D.Disk.content g.D.Disk.image g.D.Disk.faults c.args.first.now c.args.second.now c.args.side c.args.epoch c.requires
    c.open_journal.new.first c.open_journal.new.second c.in-Some.pair c.open_journal.ensures.other is.0 (ap (λ (j : JournalState). j.epoch) is.1 ∙ is.4)

pub returns-in-Some-clause-records : goal.returns-in-Some-clause-records
returns-in-Some-clause-records g c =
    let is = c.in-Some.ensures.some in
    opened_stands g.D.Disk.content g.D.Disk.image g.D.Disk.faults c.args.first.now c.args.second.now c.args.side c.args.epoch c.requires
    c.in-Ok.journal c.in-Some.pair c.in-Ok.records.items c.in-Ok.ensures.records is.0 is.1 is.4

pub returns-in-None-clause-cause : goal.returns-in-None-clause-cause
returns-in-None-clause-cause g c =
    never_other g.D.Disk.content g.D.Disk.image g.D.Disk.faults c.args.first.now c.args.second.now c.args.side c.args.epoch c.requires
    c.in-Ok.journal c.in-Ok.records.items c.in-Ok.ensures.records c.in-None.ensures.none

pub returns-in-Err-clause-cause : goal.returns-in-Err-clause-cause
returns-in-Err-clause-cause g c =
    store_cause g.D.Disk.content g.D.Disk.image g.D.Disk.faults c.args.first.now c.args.second.now c.args.side c.args.epoch c.requires
    c.open_journal.new.first c.open_journal.new.second c.in-Err.fault c.in-Err.ensures.cause
