use Rattle.turtle_lex.specs.ClassOf.{in_class}
use Rattle.turtle_lex.proofs.RunLemmas.{some_run}
use Rattle.turtle_lex.proofs.char_runs.strip_some.Goals as goal

pub returns-in-Some-clause-found : goal.returns-in-Some-clause-found
returns-in-Some-clause-found c = some_run (in_class c.args.class) _ _ _ c.in-Some.ensures.matches.found c.strip_run.ensures.run
