use Rattle.std.proofs.Common.{subst, arith}
use Rattle.journal_log.specs.Heads.{NoHead}
use Rattle.journal_log.proofs.HeadBytes.{no_head_short, no_head_prefix, head_prefix}
use Rattle.journal_log.proofs.OpenRuns.{if_some, if_none}
use Rattle.journal_log.proofs.opening.head_at.Goals as goal

pub returns-then-window-lt16-clause-none : goal.returns-then-window-lt16-clause-none
returns-then-window-lt16-clause-none g c = λ b visible. no_head_short b (omega (arith, c.if-window-lt16.true, (c.requires b visible).size))

pub returns-clause-found : goal.returns-clause-found
returns-clause-found g c = if_some c.read-2.result _ _ (λ head is b visible. head_prefix c.read.new.into b is.0 head.format head.epoch (c.in_ok-read.ensures.bytes b visible) is.1) c.read-2.ensures.found

pub returns-clause-none : goal.returns-clause-none
returns-clause-none g c = if_none c.read-2.result _ _ (λ none b visible. no_head_prefix b (subst NoHead (c.in_ok-read.ensures.bytes b visible) none)) c.read-2.ensures.none
