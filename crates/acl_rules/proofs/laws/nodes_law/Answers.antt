use Rattle.acl_rules.proofs.NodeRules.{rule_nodes, rules_ordered, own_rule}
use Rattle.acl_rules.proofs.laws.nodes_law.Goals as goal

pub returns : goal.returns
returns c = record { nodes = rule_nodes; order = rules_ordered; own = own_rule }
