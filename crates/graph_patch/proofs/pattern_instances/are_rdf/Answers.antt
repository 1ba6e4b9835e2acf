use Rattle.std.proofs.Common.{◌∙◌, ◌≤◌, sym, arith, length}
use Rattle.std.proofs.lemmas.Bool.{true≢false}
use Rattle.graph_patch.specs.Pattern.{value_of}
use Rattle.rdf_graph.specs.Triple.{IsRdf}
use Rattle.rdf_graph.specs.TripleRef.{triple_of}
use Rattle.graph_patch.proofs.Instancing.{instance_all, instance_here, instance_more}
use Rattle.graph_patch.proofs.pattern_instances.are_rdf.Goals as goal

pub returns-then-not-are_rdf_parts : goal.returns-then-not-are_rdf_parts
returns-then-not-are_rdf_parts c = (
  triple_of c.instance-triple.result,
  instance_here (value_of c.args.pairs.now) c.args.patterns.now c.loop-pattern.pattern-index c.pattern-item.result (triple_of c.instance-triple.result) c.loop-pattern-test.true c.pattern-item.is c.instance-triple.ensures,
  λ h. true≢false (sym (c.are_rdf_parts.ensures.1 h) ∙ c.if-not-are_rdf_parts.true),
)

pub loop-pattern-preserved : goal.loop-pattern-preserved
loop-pattern-preserved c =
    instance_more IsRdf (value_of c.args.pairs.now) c.args.patterns.now c.loop-pattern.pattern-index c.pattern-item.result (triple_of c.instance-triple.result) c.loop-pattern-test.true c.pattern-item.is
    c.loop-pattern.invariant c.instance-triple.ensures (c.are_rdf_parts.ensures.0 c.if-not-are_rdf_parts.false)

pub returns : goal.returns
returns c =
    let past : length c.args.patterns.now ≤ c.loop-pattern.pattern-index = omega arith in
    instance_all IsRdf (value_of c.args.pairs.now) c.args.patterns.now c.loop-pattern.pattern-index past c.loop-pattern.invariant
