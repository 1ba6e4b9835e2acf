use Rattle.std.proofs.Common.{◌≡◌, length, take}
use Rattle.acl_rules.specs.Rules.{rule_from, triples_of}
use Rattle.acl_rules.proofs.graph_rules.rule_of.Given as goal

-- the rule of the node's triples so far
abbrev pub invariant-loop-triple : goal.invariant-loop-triple
invariant-loop-triple l = l.rule ≡ rule_from l.base l.node (take (length l.yielded) (triples_of l.node l.graph))
