use Rattle.std.proofs.Common.{rules, ◌+◌, ◌++◌, inr, sym, subst}
use Rattle.std.proofs.lemmas.Result.{on_ok_weaker, on_err_weaker}
use Rattle.pod_disk.specs.Disk.{LeavesOnly}
use Rattle.journal_log.specs.Frames.{framed_of, opened}
use Rattle.journal_log.specs.Gates.{IsOpening}
use Rattle.journal_log.specs.Heads.{encoded_head}
use Rattle.journal_log.specs.Images.{IsEither}
use Rattle.journal_log.specs.Renewing.{IsNewJournal}
use Rattle.journal_pair.specs.Sides.{active_of, other_of}
use Rattle.journal_pair.specs.Stores.{StoreStandsEither, StoreStandsBoth}
use Rattle.journal_pair.specs.PairState.{PairState}
use Rattle.journal_pair.specs.PairJournal.{IsAppendInDoubt, IsCheckpointInDoubt, IsPairInDoubt, IsPassedBeside}
use Rattle.journal_pair.specs.PairMoments.{LeavesPairs}
use Rattle.journal_pair.proofs.Beside.{closed_passed}
use Rattle.journal_pair.proofs.Pairing.{either_run}
use Rattle.journal_pair.proofs.Repairing.{of_checkpoint, of_append, long_beside, shut_pairs, still_doubt}
use Rattle.journal_pair.proofs.pair.Pair.repair.Goals as goal

pub shut_beside-requires : goal.shut_beside-requires
shut_beside-requires g c =
    let doubt = subst (λ (s : PairState). IsPairInDoubt g.D.Disk.image c.args.first.now c.args.second.now s c.requires.0 c.requires.1) (sym c.self.view_is) c.requires.2 in
    long_beside g.D.Disk.content g.D.Disk.image g.D.Disk.moment g.D.Disk.left_since g.D.Disk.reads_image g.D.Disk.counts_now g.D.Disk.only_now c.args.first.now c.args.second.now _ c.requires.0 c.requires.1
    (of_checkpoint g.D.Disk.content g.D.Disk.image g.D.Disk.moment g.D.Disk.left_since g.D.Disk.reads_image g.D.Disk.counts_now g.D.Disk.only_now c.args.first.now c.args.second.now _ c.requires.0 c.requires.1 c.if-self.true doubt)

pub returns-in_err-shut_beside-clause-checkpoint_moments : goal.returns-in_err-shut_beside-clause-checkpoint_moments
returns-in_err-shut_beside-clause-checkpoint_moments g c = λ bodies body.
    subst (λ (s : PairState). IsCheckpointInDoubt g.D.Disk.image c.args.first.now c.args.second.now s bodies body
    → LeavesOnly g.D.Disk.moment g.D.Disk.left_since (other_of s.active c.args.first.now c.args.second.now) (other_of s.active c.shut_beside.new.first c.shut_beside.new.second) (IsNewJournal (s.journal.epoch + 1) body))
    c.self.view_is (λ doubt. c.shut_beside.ensures.in_doubt _ body doubt.new)

pub returns-in_err-shut_beside-clause-checkpoint_pairs : goal.returns-in_err-shut_beside-clause-checkpoint_pairs
returns-in_err-shut_beside-clause-checkpoint_pairs g c = λ bodies body.
    subst (λ (s : PairState). IsCheckpointInDoubt g.D.Disk.image c.args.first.now c.args.second.now s bodies body
    → LeavesPairs g.D.Disk.moment g.D.Disk.left_since c.args.first.now c.args.second.now c.shut_beside.new.first c.shut_beside.new.second (StoreStandsBoth s.active s.journal.format s.journal.epoch bodies body))
    c.self.view_is (λ doubt. shut_pairs g.D.Disk.content g.D.Disk.image g.D.Disk.moment g.D.Disk.left_since g.D.Disk.reads_image g.D.Disk.counts_now g.D.Disk.only_now c.args.first.now c.args.second.now _
    c.shut_beside.new.first c.shut_beside.new.second bodies body doubt (c.shut_beside.ensures.in_doubt _ body doubt.new) c.shut_beside.ensures.active)

pub returns-in_err-shut_beside-clause-fault : goal.returns-in_err-shut_beside-clause-fault
returns-in_err-shut_beside-clause-fault g c = on_err_weaker {P = Unit {0}} c.from_residual.result (λ _ bodies body.
    subst (λ (s : PairState). IsPairInDoubt g.D.Disk.image c.args.first.now c.args.second.now s bodies body
    → IsPairInDoubt g.D.Disk.image c.shut_beside.new.first c.shut_beside.new.second s bodies body) c.self.view_is (λ in_doubt.
    let doubt = of_checkpoint g.D.Disk.content g.D.Disk.image g.D.Disk.moment g.D.Disk.left_since g.D.Disk.reads_image g.D.Disk.counts_now g.D.Disk.only_now c.args.first.now c.args.second.now _ bodies body c.if-self.true in_doubt in
    inr (still_doubt g.D.Disk.content g.D.Disk.image g.D.Disk.moment g.D.Disk.left_since g.D.Disk.reads_image g.D.Disk.counts_now g.D.Disk.only_now c.args.first.now c.args.second.now _
    c.shut_beside.new.first c.shut_beside.new.second bodies body doubt (c.shut_beside.ensures.in_doubt _ body doubt.new) c.shut_beside.ensures.active))) (search rules)

pub returns-then-self-clause-checkpoint_moments : goal.returns-then-self-clause-checkpoint_moments
returns-then-self-clause-checkpoint_moments g c = λ bodies body.
    subst (λ (s : PairState). IsCheckpointInDoubt g.D.Disk.image c.args.first.now c.args.second.now s bodies body
    → LeavesOnly g.D.Disk.moment g.D.Disk.left_since (other_of s.active c.args.first.now c.args.second.now) (other_of s.active c.shut_beside.new.first c.shut_beside.new.second) (IsNewJournal (s.journal.epoch + 1) body))
    c.self.view_is (λ doubt. c.shut_beside.ensures.in_doubt _ body doubt.new)

pub returns-then-self-clause-checkpoint_pairs : goal.returns-then-self-clause-checkpoint_pairs
returns-then-self-clause-checkpoint_pairs g c = λ bodies body.
    subst (λ (s : PairState). IsCheckpointInDoubt g.D.Disk.image c.args.first.now c.args.second.now s bodies body
    → LeavesPairs g.D.Disk.moment g.D.Disk.left_since c.args.first.now c.args.second.now c.shut_beside.new.first c.shut_beside.new.second (StoreStandsBoth s.active s.journal.format s.journal.epoch bodies body))
    c.self.view_is (λ doubt. shut_pairs g.D.Disk.content g.D.Disk.image g.D.Disk.moment g.D.Disk.left_since g.D.Disk.reads_image g.D.Disk.counts_now g.D.Disk.only_now c.args.first.now c.args.second.now _
    c.shut_beside.new.first c.shut_beside.new.second bodies body doubt (c.shut_beside.ensures.in_doubt _ body doubt.new) c.shut_beside.ensures.active)

pub returns-then-self-clause-checkpoint_passed : goal.returns-then-self-clause-checkpoint_passed
returns-then-self-clause-checkpoint_passed g c = λ _ c' here. closed_passed c.self.inside.active c.self.inside.journal.epoch c' (c.in_ok-shut_beside.ensures.shut c' here)

pub returns-clause-append_moments : goal.returns-clause-append_moments
returns-clause-append_moments g c = λ bodies body.
    subst (λ (s : PairState). IsAppendInDoubt g.D.Disk.image c.args.first.now c.args.second.now s bodies body
    → LeavesOnly g.D.Disk.moment g.D.Disk.left_since (active_of s.active c.args.first.now c.args.second.now) (active_of s.active c.repair_on.new.first c.repair_on.new.second) (IsEither s.journal.format s.journal.epoch bodies body))
    c.self.view_is (λ doubt. c.repair_on.ensures.moments bodies body doubt.journal)

pub returns-clause-append_gates : goal.returns-clause-append_gates
returns-clause-append_gates g c = λ bodies body.
    subst (λ (s : PairState). IsAppendInDoubt g.D.Disk.image c.args.first.now c.args.second.now s bodies body
    → LeavesOnly g.D.Disk.moment g.D.Disk.left_since (active_of s.active c.args.first.now c.args.second.now) (active_of s.active c.repair_on.new.first c.repair_on.new.second) (IsOpening (encoded_head s.journal.format s.journal.epoch ++ opened bodies) (framed_of body)))
    c.self.view_is (λ doubt. c.repair_on.ensures.gates bodies body doubt.journal)

pub returns-clause-append_pairs : goal.returns-clause-append_pairs
returns-clause-append_pairs g c = λ bodies body.
    subst (λ (s : PairState). IsAppendInDoubt g.D.Disk.image c.args.first.now c.args.second.now s bodies body → IsPassedBeside g.D.Disk.image c.args.first.now c.args.second.now s
    → LeavesPairs g.D.Disk.moment g.D.Disk.left_since c.args.first.now c.args.second.now c.repair_on.new.first c.repair_on.new.second (StoreStandsEither s.active s.journal.format s.journal.epoch bodies body))
    c.self.view_is (λ doubt passed. either_run g.D.Disk.image g.D.Disk.moment g.D.Disk.left_since c.args.first.now c.args.second.now (record { active = c.self.inside.active; journal = c.self.inside.journal; snapshot = c.self.inside.snapshot; checkpoint = c.self.inside.checkpoint }) c.repair_on.new.first c.repair_on.new.second g.D.Disk.only_now
    bodies body doubt.snapshot passed (c.repair_on.ensures.moments bodies body doubt.journal) c.repair_on.ensures.other)

pub returns-clause-repaired : goal.returns-clause-repaired
returns-clause-repaired g c = on_ok_weaker c.repair_on.result (λ repaired bodies body in_doubt.
    let doubt = of_append g.D.Disk.content g.D.Disk.image g.D.Disk.moment g.D.Disk.left_since g.D.Disk.reads_image g.D.Disk.counts_now g.D.Disk.only_now c.args.first.now c.args.second.now _ bodies body c.if-self.false
    (subst (λ (s : PairState). IsPairInDoubt g.D.Disk.image c.args.first.now c.args.second.now s bodies body) (sym c.self.view_is) in_doubt) in record {
      journal = repaired bodies body doubt.journal;
      snapshot = doubt.snapshot;
      certain = doubt.certain;
    }) c.repair_on.ensures.repaired
