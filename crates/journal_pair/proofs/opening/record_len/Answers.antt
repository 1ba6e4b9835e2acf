use Rattle.std.proofs.Common.{[], ◌∷◌, arith, length-append}
use Rattle.journal_log.specs.Frames.{sized}
use Rattle.journal_log.proofs.Splits.{length_sized}
use Rattle.journal_pair.proofs.opening.record_len.Goals as goal

pub returns : goal.returns
returns c = omega (arith, length-append (sized c.args.body.now) (0 ∷ []), length_sized c.args.body.now)
