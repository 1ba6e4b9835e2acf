use Rattle.pod_access.proofs.Granting.{rule_node, node_rule}
use Rattle.pod_access.proofs.laws.rule_law.Goals as goal

pub returns : goal.returns
returns c = λ member base g how at agent mode node own rule.
    (rule_node member base g how at agent mode node rule, node_rule member base g how at agent mode node own)
