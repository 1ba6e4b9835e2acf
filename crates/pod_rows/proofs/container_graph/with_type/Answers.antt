use Rattle.std.proofs.Common.{rules}
use Rattle.acl_rules.specs.Vocabulary.{rdf_type}
use Rattle.pod_rows.proofs.container_graph.with_type.Goals as goal

pub returns : goal.returns
unfolding rdf_type
returns c = search rules
