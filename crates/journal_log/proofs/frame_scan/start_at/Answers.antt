use Rattle.std.proofs.Common.{◌+◌, ℕ, List, take, drop, sym, ◌∙◌, ap, subst, arith}
use Rattle.std.proofs.lemmas.List.{length-drop, drop-drop}
use Rattle.journal_log.specs.Scanning.{IsByteAt}
use Rattle.journal_log.proofs.FrameReads.{short_is_broken, long_is_broken}
use Rattle.journal_log.proofs.frame_scan.start_at.Goals as goal

pub returns-then-gate-eq0-clause-is : goal.returns-then-gate-eq0-clause-is
returns-then-gate-eq0-clause-is g c = λ b visible.
    let byte = c.in_ok-gate.ensures.byte b visible in
    (drop (c.args.at + 1) b, subst (λ (n : ℕ). IsByteAt c.args.at b n) c.if-gate-eq0.true byte)

pub returns-then-window-at-lt10-clause-is : goal.returns-then-window-at-lt10-clause-is
returns-then-window-at-lt10-clause-is g c = λ b visible.
    short_is_broken (drop c.args.at b) (drop (c.args.at + 1) b) c.in_ok-gate.gate (c.in_ok-gate.ensures.byte b visible) c.if-gate-eq0.false
    (omega (arith, c.if-window-at-lt10.true, (c.requires.shown b visible).size, c.in_ok-gate.ensures.kept.size, length-drop c.args.at b))

pub returns-then-len-window-clause-is : goal.returns-then-len-window-clause-is
returns-then-len-window-clause-is g c = λ b visible.
    long_is_broken (drop c.args.at b) (drop (c.args.at + 1) b) c.in_ok-gate.gate c.in_ok-len.len (c.in_ok-gate.ensures.byte b visible) c.if-gate-eq0.false c.in_ok-len.ensures.small
    (c.in_ok-len.ensures.number b (c.in_ok-gate.ensures.kept.content ∙ visible) ∙ ap (λ (l : List ℕ). take 8 l) (sym (drop-drop 1 c.args.at b)))
    (omega (arith, c.if-len-window.true, c.if-window-at-lt10.false, (c.requires.shown b visible).size, c.in_ok-gate.ensures.kept.size, c.in_ok-len.ensures.kept.size, length-drop c.args.at b))
