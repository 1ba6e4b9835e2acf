use Rattle.std.proofs.Common.{◌≡◌, take, map}
use Rattle.std.specs.List.{filter}
use Rattle.acl_rules.specs.Rules.{rule_of, is_rule_statement}
use Rattle.acl_rules.proofs.graph_rules.rules_of.Given as goal

-- the rules of the triples so far
abbrev pub invariant-loop-triple : goal.invariant-loop-triple
invariant-loop-triple l =
    l.list ≡ map (λ t. rule_of l.base l.graph t.s) (filter is_rule_statement (take l.triple-index l.triple-items))
