use Rattle.std.proofs.Common.{length, arith}
use Rattle.memchr.specs.Find.{is_byte2}
use Rattle.turtle_lex.proofs.PlainLemmas.{all_before}
use Rattle.turtle_lex.proofs.plain_run.len_before.Goals as goal

pub returns-in-Some-clause-neither : goal.returns-in-Some-clause-neither
returns-in-Some-clause-neither c =
    all_before (is_byte2 c.args.first c.args.second) c.args.text.now c.in-Some.at (λ k lt e. c.in-Some.ensures.0.before k (omega arith) lt e)

pub returns-in-None-clause-neither : goal.returns-in-None-clause-neither
returns-in-None-clause-neither c =
    all_before (is_byte2 c.args.first c.args.second) c.args.text.now (length c.args.text.now) (λ k lt e. c.in-None.ensures k (omega arith) lt e)
