use Rattle.std.proofs.Common.{◌≡◌, ℕ, List, length, take, sym, ap, ◌∙◌, arith}
use Rattle.std.proofs.lemmas.Iterator.Consumers.{YieldsList-from_first, YieldsList-turn, YieldsList-end}
use Rattle.std.proofs.lemmas.List.{length_push, take_all}
use Rattle.rdf_graph.specs.Walk.{walk_rest}
use Rattle.rdf_graph.specs.declared.triple.Triple.{Triple}
use Rattle.acl_rules.specs.Building.{with_triple}
use Rattle.acl_rules.specs.Rules.{rule_from, rule_of, triples_of}
use Rattle.acl_rules.proofs.NodeRules.{walked, rule_more}
use Rattle.acl_rules.proofs.graph_rules.rule_of.Goals as goal

pub loop-triple-preserved : goal.loop-triple-preserved
loop-triple-preserved c =
    let base = c.args.base.now in
    let node = c.args.node.now in
    let all = triples_of node c.args.graph.now in
    let n = length c.loop-triple.yielded in
    let start : walk_rest c.into_iter-triple-iterator.result ≡ all = ap walk_rest c.into_iter-triple-iterator.ensures.into_iter_gives ∙ walked node c.args.graph.now (walk_rest c.walk-triple-items.result) c.requires c.walk-triple-items.ensures.ordered c.walk-triple-items.ensures.members in
    let turn = YieldsList-turn (YieldsList-from_first (λ x. x.now) walk_rest {s = c.into_iter-triple-iterator.result} all start) c.loop-triple.yielded c.loop-triple.triple-iterator c.loop-triple.yielded_by c.next.result c.next.new.self c.in-Some.triple c.in-Some.is c.next.ensures.steps in
    c.in_ok-add.ensures ∙ ap (with_triple base c.in-Some.triple.now) c.loop-triple.invariant ∙ rule_more base node all n c.in-Some.triple.now turn.0 turn.1
    ∙ ap (λ (k : ℕ). rule_from base node (take k all)) (sym (length_push c.loop-triple.yielded c.in-Some.triple))

pub returns : goal.returns
unfolding rule_of
returns c =
    let base = c.args.base.now in
    let node = c.args.node.now in
    let all = triples_of node c.args.graph.now in
    let start : walk_rest c.into_iter-triple-iterator.result ≡ all = ap walk_rest c.into_iter-triple-iterator.ensures.into_iter_gives ∙ walked node c.args.graph.now (walk_rest c.walk-triple-items.result) c.requires c.walk-triple-items.ensures.ordered c.walk-triple-items.ensures.members in
    let end = YieldsList-end (YieldsList-from_first (λ x. x.now) walk_rest {s = c.into_iter-triple-iterator.result} all start) c.loop-triple.yielded c.loop-triple.triple-iterator c.loop-triple.yielded_by c.next.result c.next.new.self c.in-None.is c.next.ensures.steps in
    c.loop-triple.invariant ∙ ap (rule_from base node) (take_all (length c.loop-triple.yielded) all (omega (arith, end.1)))
