use Rattle.std.proofs.Common.{◌≡◌, ◌+◌, ℕ, List, length, drop, refl, sym, ◌∙◌, ap, subst, arith}
use Rattle.journal_log.specs.Scanning.{IsSeen, FrameFits, IsRecord}
use Rattle.journal_log.specs.Walking.{IsReadTo, HasTornGate}
use Rattle.journal_log.specs.declared.frame_scan.Frame.{Frame}
use Rattle.journal_log.proofs.ReadRuns.{reads_none, reads_then}
use Rattle.journal_log.proofs.WalkSteps.{read_none, whole, broken, torn_gate_found, read_more}
use Rattle.journal_log.proofs.record_walk.read_records.Goals as goal

pub loop-records-init : goal.loop-records-init
loop-records-init g c = record {
  read = subst (λ (l : List (List ℕ)). IsReadTo (g.D.Disk.content c.args.disk.now) c.args.window.now.size c.args.head l 16) (sym c.new-records.ensures.items)
      (read_none (g.D.Disk.content c.args.disk.now) c.args.window.now.size c.args.head c.requires.known c.requires.head);
  within = c.requires.size;
  size = refl;
  shown = c.requires.shown;
  content = refl;
  only_reads = reads_none g.D.Disk.image g.D.Disk.moment g.D.Disk.left_since c.args.disk.now;
  no_fewer = omega arith;
}

pub returns-in-End-clause-is : goal.returns-in-End-clause-is
returns-in-End-clause-is g c = record {
  known = c.requires.known;
  room = omega (arith, c.loop-records.invariant.within, c.loop-records.invariant.size, c.requires.small);
  gates = whole (g.D.Disk.content c.args.disk.now) c.args.window.now.size c.args.head c.loop-records.records.items c.loop-records.at c.loop-records.invariant.read
      (λ b visible. subst (λ (f : Frame). IsSeen f (drop c.loop-records.at b)) c.in-End.is (c.in_ok-frame_at.ensures.is b (c.loop-records.invariant.content ∙ visible)));
}

pub returns-in-Broken-clause-is : goal.returns-in-Broken-clause-is
returns-in-Broken-clause-is g c =
    broken (g.D.Disk.content c.args.disk.now) c.args.window.now.size c.args.head c.loop-records.records.items c.loop-records.at c.loop-records.invariant.read
    (λ b visible. (c.requires.shown b visible).size)
    (λ b visible. subst (λ (f : Frame). IsSeen f (drop c.loop-records.at b)) c.in-Broken.is (c.in_ok-frame_at.ensures.is b (c.loop-records.invariant.content ∙ visible)))

pub returns-then-gate-ne1-clause-is : goal.returns-then-gate-ne1-clause-is
returns-then-gate-ne1-clause-is g c =
    let content = g.D.Disk.content c.args.disk.now in
    let fits = subst (FrameFits c.loop-records.at c.loop-records.window.size) c.in-Record.is c.in_ok-frame_at.ensures.fits in
    let size : length c.as_slice.result.now ≡ length c.in-Record.body = ap length c.as_slice.ensures in
    let end = c.loop-records.at + 9 + length c.as_slice.result.now in
    record {
      known = c.requires.known;
      room = omega (arith, size, fits.1, c.loop-records.invariant.size, c.requires.small);
      gates = subst (λ (l : List (List ℕ)). HasTornGate content c.args.head l end c.loop-records.at) (sym c.in_ok-keep-in-Record.ensures.kept)
          (torn_gate_found content c.args.window.now.size c.args.head c.loop-records.records.items c.loop-records.at c.loop-records.invariant.read
          c.in-Record.gate c.in-Record.body end fits.0 c.if-gate-ne1.true (omega (arith, fits.1, c.loop-records.invariant.size, c.requires.small))
          (omega (arith, size))
          (λ b visible. subst (λ (f : Frame). IsSeen f (drop c.loop-records.at b)) c.in-Record.is (c.in_ok-frame_at.ensures.is b (c.loop-records.invariant.content ∙ visible))));
    }

pub loop-records-preserved : goal.loop-records-preserved
loop-records-preserved g c =
    let content = g.D.Disk.content c.args.disk.now in
    let fits = subst (FrameFits c.loop-records.at c.loop-records.window.size) c.in-Record.is c.in_ok-frame_at.ensures.fits in
    let size : length c.as_slice.result.now ≡ length c.in-Record.body = ap length c.as_slice.ensures in
    let next = c.loop-records.at + 9 + length c.as_slice.result.now in
    let kept = c.in_ok-frame_at.ensures.kept in
    record {
      read = subst (λ (l : List (List ℕ)). IsReadTo content c.args.window.now.size c.args.head l next) (sym c.in_ok-keep-in-Record.ensures.kept)
          (read_more content c.args.window.now.size c.args.head c.loop-records.records.items c.loop-records.at c.loop-records.invariant.read
          c.in-Record.body next (omega (arith, fits.1, c.loop-records.invariant.size, c.requires.small)) (omega (arith, size))
          (omega (arith, size, fits.1, c.loop-records.invariant.size))
          (λ b visible. subst (λ (n : ℕ). IsRecord n c.in-Record.body (drop c.loop-records.at b)) c.if-gate-ne1.false
          (subst (λ (f : Frame). IsSeen f (drop c.loop-records.at b)) c.in-Record.is (c.in_ok-frame_at.ensures.is b (c.loop-records.invariant.content ∙ visible)))));
      within = omega (arith, size, fits.1, kept.size);
      size = kept.size ∙ c.loop-records.invariant.size;
      shown = kept.shown;
      content = kept.content ∙ c.loop-records.invariant.content;
      only_reads = reads_then g.D.Disk.image g.D.Disk.moment g.D.Disk.left_since _ _ _ c.loop-records.invariant.only_reads c.frame_at.ensures.only_reads;
      no_fewer = omega (arith, c.loop-records.invariant.no_fewer, c.frame_at.ensures.no_fewer);
    }
