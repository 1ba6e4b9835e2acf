use Rattle.std.proofs.Common.{rules, ◌+◌, ℕ, Err, inl, inr, refl, sym, ◌∙◌, ap, subst, arith}
use Rattle.pod_disk.specs.Disk.{EachImage}
use Rattle.journal_log.specs.Renewing.{IsNewJournal}
use Rattle.journal_pair.specs.Sides.{other_of}
use Rattle.journal_pair.specs.PairState.{PairState}
use Rattle.journal_pair.specs.PairJournal.{IsPairClean}
use Rattle.journal_pair.proofs.Pairing.{clean_pairs}
use Rattle.journal_pair.proofs.Checkpointing.{kept_clean, renew_moments, renew_pairs, closed_left, renewed_passed, renewed_long}
use Rattle.journal_pair.proofs.pair.Pair.checkpoint.Goals as goal

pub returns-then-epoch-clause-pairs : goal.returns-then-epoch-clause-pairs
returns-then-epoch-clause-pairs g c = λ bodies clean passed long c' d left left_2.
    inl (clean_pairs g.D.Disk.image g.D.Disk.moment g.D.Disk.left_since c.args.first.now c.args.second.now c.args.self.now bodies clean passed c' d
    (g.D.Disk.only_now _ c' left) (g.D.Disk.only_now _ d left_2))

pub returns-in-Ok-clause-moments : goal.returns-in-Ok-clause-moments
returns-in-Ok-clause-moments g c = λ passed long.
    renew_moments g.D.Disk.content g.D.Disk.image g.D.Disk.moment g.D.Disk.left_since g.D.Disk.reads_image g.D.Disk.counts_now g.D.Disk.only_now
    c.args.first.now c.args.second.now c.renew_beside.new.first c.renew_beside.new.second c.args.self.now c.self.inside.active (ap (λ (s : PairState). s.active) c.self.view_is)
    c.epoch-epoch.result (c.epoch-epoch.ensures.epoch ∙ ap (λ (s : PairState). s.journal.epoch) c.self.view_is) c.args.snapshot.now passed long c.renew_beside.ensures.moments

pub returns-in-Ok-clause-pairs : goal.returns-in-Ok-clause-pairs
returns-in-Ok-clause-pairs g c = λ bodies clean passed long.
    renew_pairs g.D.Disk.content g.D.Disk.image g.D.Disk.moment g.D.Disk.left_since g.D.Disk.reads_image g.D.Disk.counts_now g.D.Disk.only_now
    c.args.first.now c.args.second.now c.renew_beside.new.first c.renew_beside.new.second c.args.self.now c.self.inside.active (ap (λ (s : PairState). s.active) c.self.view_is)
    c.epoch-epoch.result (c.epoch-epoch.ensures.epoch ∙ ap (λ (s : PairState). s.journal.epoch) c.self.view_is) c.args.snapshot.now passed long c.renew_beside.ensures.moments
    bodies clean (omega (arith, c.epoch-epoch.ensures.most, c.if-epoch.false)) (omega (arith, c.len-len.ensures.short)) c.renew_beside.ensures.active

pub returns-in-Ok-clause-done : goal.returns-in-Ok-clause-done
returns-in-Ok-clause-done g c = λ _. record {
  clean = search rules;
  active = search rules;
  format = search rules;
  epoch = search rules;
  passed =
      renewed_passed g.D.Disk.content g.D.Disk.image g.D.Disk.moment g.D.Disk.left_since g.D.Disk.reads_image g.D.Disk.counts_now g.D.Disk.only_now
      c.args.first.now c.args.second.now c.renew_beside.new.first c.renew_beside.new.second c.args.self.now c.self.inside.active (ap (λ (s : PairState). s.active) c.self.view_is)
      c.epoch-epoch.result (c.epoch-epoch.ensures.epoch ∙ ap (λ (s : PairState). s.journal.epoch) c.self.view_is)
      c.requires.0 c.requires.1 c.renew_beside.ensures.active c.opposite-self-inside.result c.opposite-self-inside.ensures c.in-Ok.journal.epoch c.in-Ok.ensures.epoch;
  long =
      renewed_long g.D.Disk.content g.D.Disk.image g.D.Disk.moment g.D.Disk.left_since g.D.Disk.reads_image g.D.Disk.counts_now g.D.Disk.only_now
      c.args.first.now c.args.second.now c.renew_beside.new.first c.renew_beside.new.second c.args.self.now c.self.inside.active (ap (λ (s : PairState). s.active) c.self.view_is)
      c.epoch-epoch.result (c.epoch-epoch.ensures.epoch ∙ ap (λ (s : PairState). s.journal.epoch) c.self.view_is)
      c.requires.0 c.requires.1 c.renew_beside.ensures.active c.opposite-self-inside.result c.opposite-self-inside.ensures;
}

pub returns-in-Err-Closed-clause-moments : goal.returns-in-Err-Closed-clause-moments
returns-in-Err-Closed-clause-moments g c = λ passed long.
    renew_moments g.D.Disk.content g.D.Disk.image g.D.Disk.moment g.D.Disk.left_since g.D.Disk.reads_image g.D.Disk.counts_now g.D.Disk.only_now
    c.args.first.now c.args.second.now c.renew_beside.new.first c.renew_beside.new.second c.args.self.now c.self.inside.active (ap (λ (s : PairState). s.active) c.self.view_is)
    c.epoch-epoch.result (c.epoch-epoch.ensures.epoch ∙ ap (λ (s : PairState). s.journal.epoch) c.self.view_is) c.args.snapshot.now passed long c.renew_beside.ensures.moments

pub returns-in-Err-Closed-clause-pairs : goal.returns-in-Err-Closed-clause-pairs
returns-in-Err-Closed-clause-pairs g c = λ bodies clean passed long.
    renew_pairs g.D.Disk.content g.D.Disk.image g.D.Disk.moment g.D.Disk.left_since g.D.Disk.reads_image g.D.Disk.counts_now g.D.Disk.only_now
    c.args.first.now c.args.second.now c.renew_beside.new.first c.renew_beside.new.second c.args.self.now c.self.inside.active (ap (λ (s : PairState). s.active) c.self.view_is)
    c.epoch-epoch.result (c.epoch-epoch.ensures.epoch ∙ ap (λ (s : PairState). s.journal.epoch) c.self.view_is) c.args.snapshot.now passed long c.renew_beside.ensures.moments
    bodies clean (omega (arith, c.epoch-epoch.ensures.most, c.if-epoch.false)) (omega (arith, c.len-len.ensures.short)) c.renew_beside.ensures.active

pub returns-in-Err-Closed-clause-fault_passed : goal.returns-in-Err-Closed-clause-fault_passed
returns-in-Err-Closed-clause-fault_passed g c = λ _ passed long c' here.
    (closed_left g.D.Disk.content g.D.Disk.image g.D.Disk.moment g.D.Disk.left_since g.D.Disk.reads_image g.D.Disk.counts_now g.D.Disk.only_now
    c.args.first.now c.args.second.now c.renew_beside.new.first c.renew_beside.new.second c.args.self.now c.self.inside.active (ap (λ (s : PairState). s.active) c.self.view_is)
    c.epoch-epoch.result (c.epoch-epoch.ensures.epoch ∙ ap (λ (s : PairState). s.journal.epoch) c.self.view_is) passed long (c.in-Err-Closed.ensures.closed (ap Err c.in-Err-Closed.field-0-is)) c' here).0

pub returns-in-Err-Closed-clause-fault_long : goal.returns-in-Err-Closed-clause-fault_long
returns-in-Err-Closed-clause-fault_long g c = λ _ passed long c' here.
    (closed_left g.D.Disk.content g.D.Disk.image g.D.Disk.moment g.D.Disk.left_since g.D.Disk.reads_image g.D.Disk.counts_now g.D.Disk.only_now
    c.args.first.now c.args.second.now c.renew_beside.new.first c.renew_beside.new.second c.args.self.now c.self.inside.active (ap (λ (s : PairState). s.active) c.self.view_is)
    c.epoch-epoch.result (c.epoch-epoch.ensures.epoch ∙ ap (λ (s : PairState). s.journal.epoch) c.self.view_is) passed long (c.in-Err-Closed.ensures.closed (ap Err c.in-Err-Closed.field-0-is)) c' here).1

pub returns-in-Err-InDoubt-clause-moments : goal.returns-in-Err-InDoubt-clause-moments
returns-in-Err-InDoubt-clause-moments g c = λ passed long.
    renew_moments g.D.Disk.content g.D.Disk.image g.D.Disk.moment g.D.Disk.left_since g.D.Disk.reads_image g.D.Disk.counts_now g.D.Disk.only_now
    c.args.first.now c.args.second.now c.renew_beside.new.first c.renew_beside.new.second c.args.self.now c.self.inside.active (ap (λ (s : PairState). s.active) c.self.view_is)
    c.epoch-epoch.result (c.epoch-epoch.ensures.epoch ∙ ap (λ (s : PairState). s.journal.epoch) c.self.view_is) c.args.snapshot.now passed long c.renew_beside.ensures.moments

pub returns-in-Err-InDoubt-clause-pairs : goal.returns-in-Err-InDoubt-clause-pairs
returns-in-Err-InDoubt-clause-pairs g c = λ bodies clean passed long.
    renew_pairs g.D.Disk.content g.D.Disk.image g.D.Disk.moment g.D.Disk.left_since g.D.Disk.reads_image g.D.Disk.counts_now g.D.Disk.only_now
    c.args.first.now c.args.second.now c.renew_beside.new.first c.renew_beside.new.second c.args.self.now c.self.inside.active (ap (λ (s : PairState). s.active) c.self.view_is)
    c.epoch-epoch.result (c.epoch-epoch.ensures.epoch ∙ ap (λ (s : PairState). s.journal.epoch) c.self.view_is) c.args.snapshot.now passed long c.renew_beside.ensures.moments
    bodies clean (omega (arith, c.epoch-epoch.ensures.most, c.if-epoch.false)) (omega (arith, c.len-len.ensures.short)) c.renew_beside.ensures.active

pub returns-in-Err-InDoubt-clause-fault : goal.returns-in-Err-InDoubt-clause-fault
returns-in-Err-InDoubt-clause-fault g c = λ bodies clean.
    let was = subst (λ (s : PairState). IsPairClean g.D.Disk.image c.args.first.now c.args.second.now s bodies) (sym c.self.view_is) clean in
    inr (record {
      journal = kept_clean g.D.Disk.image _ _ c.self.inside.journal bodies c.renew_beside.ensures.active was.journal;
      old = was.snapshot;
      most = omega (arith, c.epoch-epoch.ensures.epoch, c.epoch-epoch.ensures.most, c.if-epoch.false);
      short = omega (arith, c.len-len.ensures.short);
      new = subst (λ (e : ℕ). EachImage (g.D.Disk.image (other_of c.self.inside.active c.renew_beside.new.first c.renew_beside.new.second)) (IsNewJournal (e + 1) c.args.snapshot.now))
          c.epoch-epoch.ensures.epoch (c.in-Err-InDoubt.ensures.in_doubt (ap Err c.in-Err-InDoubt.field-0-is));
      doubtful = refl;
    })
