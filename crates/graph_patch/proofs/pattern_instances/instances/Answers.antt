use Rattle.std.proofs.Common.{subst, sym}
use Rattle.graph_patch.specs.Pattern.{Instantiates, value_of}
use Rattle.graph_patch.proofs.Patching.{zip_more}
use Rattle.graph_patch.proofs.pattern_instances.instances.Goals as goal

pub loop-pattern-preserved : goal.loop-pattern-preserved
loop-pattern-preserved c =
    zip_more (Instantiates (value_of c.args.pairs.now)) c.args.patterns.now c.loop-pattern.triples.items c.push.new.self.items c.loop-pattern.pattern-index c.pattern-item.result c.in_ok-triple.triple c.loop-pattern-test.true c.pattern-item.is
    c.in_ok-push.ensures.items c.loop-pattern.invariant
    (subst (Instantiates (value_of c.args.pairs.now) c.pattern-item.result) (sym c.in_ok-triple.ensures) c.instance.ensures)
