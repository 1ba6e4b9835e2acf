use Rattle.turtle_reader.proofs.Holding.{before_kept, has_before}
use Rattle.turtle_reader.proofs.kept_meanings.find.Goals as goal

pub loop-last-preserved : goal.loop-last-preserved
loop-last-preserved c = record {
  all = λ all h. before_kept all c.loop-last.left.now c.in-Some.rest.now c.in-Some.last.now c.in-Some.ensures.cases.0 (c.loop-last.invariant.all all h);
  has = λ h. has_before c.args.index c.loop-last.left.now c.in-Some.rest.now c.in-Some.last.now c.in-Some.ensures.cases.0 c.if-last-index.false (c.loop-last.invariant.has h);
}
