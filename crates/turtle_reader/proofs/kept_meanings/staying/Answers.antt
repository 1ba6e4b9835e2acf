use Rattle.std.proofs.lemmas.Bool.{OnFalse_at}
use Rattle.turtle_reader.proofs.Holding.{shortens_on}
use Rattle.turtle_reader.proofs.kept_meanings.staying.Goals as goal

pub loop-last-preserved : goal.loop-last-preserved
loop-last-preserved c =
    shortens_on c.args.machine.now c.args.kept.now c.loop-last.left.now c.in-Some.rest.now c.in-Some.last.now
    c.loop-last.invariant c.in-Some.ensures.cases.0 (OnFalse_at c.if-names.false c.names.ensures.none)
