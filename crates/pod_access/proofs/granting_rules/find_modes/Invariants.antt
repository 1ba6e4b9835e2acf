use Rattle.std.proofs.Common.{◌≡◌, take}
use Rattle.std.specs.List.{list_any}
use Rattle.pod_base.specs.declared.agent.Mode.TheVariants.{Read, Write, Append, Control}
use Rattle.pod_access.specs.Decision.{rule_grants}
use Rattle.pod_access.proofs.granting_rules.find_modes.Given as goal

-- the modes that the rules so far grant
abbrev pub invariant-loop-rule : goal.invariant-loop-rule
invariant-loop-rule g l = record {
  read : l.found.read ≡ list_any (rule_grants (g.G.Groups.is_member l.groups) l.how l.at l.agent Read) (take l.rule-index l.rules);
  write : l.found.write ≡ list_any (rule_grants (g.G.Groups.is_member l.groups) l.how l.at l.agent Write) (take l.rule-index l.rules);
  append : l.found.append ≡ list_any (rule_grants (g.G.Groups.is_member l.groups) l.how l.at l.agent Append) (take l.rule-index l.rules);
  control : l.found.control ≡ list_any (rule_grants (g.G.Groups.is_member l.groups) l.how l.at l.agent Control) (take l.rule-index l.rules);
}
