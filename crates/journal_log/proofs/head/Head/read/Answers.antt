use Rattle.std.proofs.Common.{drop, sym, ◌∙◌}
use Rattle.journal_log.proofs.HeadBytes.{head_whole, no_head_short, no_head_mark, no_head_epoch}
use Rattle.journal_log.proofs.DoubtCases.{true_is_false}
use Rattle.journal_log.proofs.head.Head.read.Goals as goal

pub returns-then-bytes-lt16-clause-none : goal.returns-then-bytes-lt16-clause-none
returns-then-bytes-lt16-clause-none c = no_head_short c.args.bytes.now c.if-bytes-lt16.true

pub returns-in_err-format-clause-none : goal.returns-in_err-format-clause-none
returns-in_err-format-clause-none c = rw c.from_residual.ensures (no_head_mark c.args.bytes.now c.in_err-format.ensures.none.0 c.in_err-format.ensures.none.1)

pub returns-clause-found : goal.returns-clause-found
returns-clause-found c = (drop 16 c.args.bytes.now, head_whole c.args.bytes.now c.in_ok-format.format c.number-epoch.result c.in_ok-format.ensures.some c.number-epoch.ensures)

pub returns-then-not-is_known-clause-none : goal.returns-then-not-is_known-clause-none
returns-then-not-is_known-clause-none c = no_head_epoch c.args.bytes.now c.in_ok-format.format c.number-epoch.result c.in_ok-format.ensures.some c.number-epoch.type_inv c.number-epoch.ensures
    (λ known. true_is_false (sym (c.is_known.ensures.no known) ∙ c.if-not-is_known.true))
