use Rattle.std.proofs.Common.{arith}
use Rattle.turtle_lex.specs.ClassOf.{in_class}
use Rattle.turtle_lex.specs.Pattern.{one}
use Rattle.turtle_lex.proofs.RunLemmas.{run_start, run_more}
use Rattle.turtle_lex.proofs.char_runs.strip_run.Goals as goal

pub loop-after-init : goal.loop-after-init
loop-after-init c = record { found = run_start (one (in_class c.args.class)) c.args.text.now; no_longer = omega arith }

pub loop-after-preserved : goal.loop-after-preserved
loop-after-preserved c = record {
  found = run_more (one (in_class c.args.class)) _ _ _ c.loop-after.invariant.found c.in-Some.ensures.matches.found;
  no_longer = omega (arith, c.in-Some.ensures.shorter);
}

pub returns-in-None-clause-run : goal.returns-in-None-clause-run
returns-in-None-clause-run c = record { found = c.loop-after.invariant.found; stops = c.in-None.ensures.matches }
