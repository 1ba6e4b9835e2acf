use Rattle.std.proofs.Common.{refl}
use Rattle.turtle_lex.proofs.NameLemmas.{nothing_known, known_by_dot, known_by_end}
use Rattle.turtle_lex.proofs.names.no_prefix_up_to.Goals as goal

pub returns-then-end-stop : goal.returns-then-end-stop
returns-then-end-stop c = known_by_dot c.args.text.now c.strip_tail.result.0.now c.strip_tail.result.1.now (c.strip_tail.ensures.prefixes refl) c.if-end-stop.true

pub returns-in-Some : goal.returns-in-Some
returns-in-Some c = nothing_known c.args.text.now

pub returns-in-None : goal.returns-in-None
returns-in-None c = known_by_end c.args.text.now c.strip_tail.result.0.now c.strip_tail.result.1.now (c.strip_tail.ensures.prefixes refl) c.in-None.ensures.matches
