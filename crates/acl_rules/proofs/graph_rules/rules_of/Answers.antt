use Rattle.std.proofs.Common.{◌≡◌, ◌≤◌, ℕ, List, length, take, map, ap, ◌∙◌, arith}
use Rattle.std.specs.List.{filter}
use Rattle.std.proofs.lemmas.List.{take_all}
use Rattle.rdf_graph.specs.declared.triple.Triple.{Triple}
use Rattle.acl_rules.specs.Rules.{rule_of, rules_of, is_rule_statement}
use Rattle.acl_rules.proofs.graph_rules.rules_of.Goals as goal

pub returns : goal.returns
unfolding rules_of
returns c =
    let items = c.as_slice-triple-items.result.now in
    let past : length items ≤ c.loop-triple.triple-index = omega arith in
    c.loop-triple.invariant
    ∙ ap (λ (g : List Triple). map (λ t. rule_of c.args.base.now c.args.graph.now t.s) (filter is_rule_statement g))
    (take_all c.loop-triple.triple-index items past ∙ c.as_slice-triple-items.ensures.triples)
