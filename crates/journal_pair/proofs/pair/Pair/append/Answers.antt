use Rattle.std.proofs.Common.{ℕ, sym, subst}
use Rattle.std.proofs.lemmas.Result.{on_ok_weaker}
use Rattle.pod_disk.specs.Disk.{EachImage, LeavesOnly}
use Rattle.journal_log.specs.CleanJournal.{IsWhileAppended}
use Rattle.journal_log.specs.Images.{IsEither}
use Rattle.journal_pair.specs.Sides.{active_of, other_of}
use Rattle.journal_pair.specs.Stores.{IsPassedOver}
use Rattle.journal_pair.specs.PairState.{PairState}
use Rattle.journal_pair.specs.PairJournal.{IsPairClean, IsPassedBeside}
use Rattle.journal_pair.proofs.Beside.{snapshot_stays}
use Rattle.journal_pair.proofs.Pairing.{kept_each}
use Rattle.journal_pair.proofs.pair.Pair.append.Goals as goal

pub returns-clause-moments : goal.returns-clause-moments
returns-clause-moments g c = λ bodies. subst (λ (s : PairState). IsPairClean g.D.Disk.image c.args.first.now c.args.second.now s bodies
    → LeavesOnly g.D.Disk.moment g.D.Disk.left_since (active_of s.active c.args.first.now c.args.second.now) (active_of s.active c.append_on.new.first c.append_on.new.second)
    (IsEither s.journal.format s.journal.epoch bodies c.args.framed.now)) c.self.view_is (λ clean. c.append_on.ensures.moments bodies clean.journal)

pub returns-clause-gates : goal.returns-clause-gates
returns-clause-gates g c = λ bodies. subst (λ (s : PairState). IsPairClean g.D.Disk.image c.args.first.now c.args.second.now s bodies
    → LeavesOnly g.D.Disk.moment g.D.Disk.left_since (active_of s.active c.args.first.now c.args.second.now) (active_of s.active c.append_on.new.first c.append_on.new.second)
    (IsWhileAppended s.journal.format s.journal.epoch bodies c.args.framed.now)) c.self.view_is (λ clean. c.append_on.ensures.gates bodies clean.journal)

pub returns-clause-appended : goal.returns-clause-appended
returns-clause-appended g c = on_ok_weaker c.append_on.result (λ appended bodies clean.
    let was = subst (λ (s : PairState). IsPairClean g.D.Disk.image c.args.first.now c.args.second.now s bodies) (sym c.self.view_is) clean in record {
      journal = appended bodies was.journal;
      snapshot = snapshot_stays c.self.inside.snapshot bodies c.args.framed.now was.snapshot;
      certain = was.certain;
    }) c.append_on.ensures.appended

pub returns-clause-passed : goal.returns-clause-passed
returns-clause-passed g c = λ passed.
    let was = subst (λ (s : PairState). IsPassedBeside g.D.Disk.image c.args.first.now c.args.second.now s) (sym c.self.view_is) passed in
    kept_each g.D.Disk.image _ _ (IsPassedOver c.self.inside.active c.append_on.new.journal.epoch) c.append_on.ensures.other
    (subst (λ (e : ℕ). EachImage (g.D.Disk.image (other_of c.self.inside.active c.args.first.now c.args.second.now)) (IsPassedOver c.self.inside.active e)) (sym c.append_on.ensures.kept.1) was)
