use Rattle.std.proofs.Common.{◌++◌, sym, subst}
use Rattle.turtle_grammar.specs.Readings.{Produces, waiting_productions}
use Rattle.turtle_grammar.proofs.NamingSteps.{waiting_names}
use Rattle.turtle_grammar.proofs.Strings.{found_waits}
use Rattle.turtle_grammar.proofs.Waiting.{waits}
use Rattle.turtle_grammar.proofs.machine.Machine.waiting.Goals as goal

pub returns-clause-waits : goal.returns-clause-waits
returns-clause-waits c start ts ps h =
    subst (λ w. Produces start ts (ps ++ waiting_productions w)) (sym c.waiting.ensures) (waits start ts ps c.args.self.now h)

pub returns-clause-names : goal.returns-clause-names
returns-clause-names c = waiting_names c.args.self.now c.waiting.result c.waiting.ensures

pub returns-clause-string : goal.returns-clause-string
returns-clause-string c = found_waits c.args.self.now c.waiting.result c.waiting.ensures
