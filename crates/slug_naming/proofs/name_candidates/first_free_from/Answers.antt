use Rattle.std.proofs.Common.{arith}
use Rattle.slug_naming.proofs.CandidateLemmas.{not_all_taken, closed_no}
use Rattle.slug_naming.proofs.name_candidates.first_free_from.Goals as goal

-- there are fewer rows than candidates
pub unreachable-requires : goal.unreachable-requires
unreachable-requires g c =
    not_all_taken (g.T.Taken.is_row c.args.taken.now) c.args.base.now c.loop-number.number (closed_no c.args.base.now c.requires.base) c.requires.rows
    (omega (arith, c.loop-number-test.false)) (omega (arith, c.loop-number.auto.number-end)) c.loop-number.invariant
