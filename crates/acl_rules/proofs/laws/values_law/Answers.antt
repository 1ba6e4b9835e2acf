use Rattle.acl_rules.proofs.NodeValues.{access_to_members, default_members, mode_members, agent_members, everyone_members, authenticated_members, group_members}
use Rattle.acl_rules.proofs.laws.values_law.Goals as goal

pub returns : goal.returns
returns c = record {
  access_to = access_to_members;
  defaults = default_members;
  modes = mode_members;
  agents = agent_members;
  everyone = everyone_members;
  authenticated = authenticated_members;
  groups = group_members;
}
