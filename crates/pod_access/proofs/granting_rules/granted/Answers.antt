use Rattle.std.proofs.Common.{◌≡◌, subst, sym, ap, ◌∙◌, List, Option}
use Rattle.std.specs.Prelude.{◌↔◌, IsTrue, is_some}
use Rattle.acl_rules.specs.declared.rule.Rule.{Rule}
use Rattle.pod_access.specs.declared.granting_rules.Ground.{Ground}
use Rattle.pod_access.specs.Decision.{first_ground}
use Rattle.pod_access.specs.Grants.{Grants}
use Rattle.pod_access.proofs.Granting.{some_is_granted}
use Rattle.pod_access.proofs.Grounds.{if_ground, if_none, if_rule_within, if_subject_within}
use Rattle.pod_access.proofs.granting_rules.granted.Goals as goal

pub returns : goal.returns
returns g c =
    let member = g.G.Groups.is_member c.args.groups.now in
    let list = c.args.rules.now.list in
    let found = λ (rules : List Rule). first_ground member rules c.args.how c.args.at.now c.args.agent.now c.args.mode in
    let ground : c.find_ground.result ≡ found list = c.find_ground.ensures ∙ ap found c.as_slice.ensures in
    record {
      ground = ground;
      first = if_ground member list c.args.how c.args.at.now c.args.agent.now c.args.mode c.find_ground.result ground;
      none = if_none member list c.args.how c.args.at.now c.args.agent.now c.args.mode c.find_ground.result ground;
      rule_within = if_rule_within member list c.args.how c.args.at.now c.args.agent.now c.args.mode c.find_ground.result ground;
      subject_within = if_subject_within member list c.args.how c.args.at.now c.args.agent.now c.args.mode c.find_ground.result ground;
      grants = λ base graph of own.
          subst (λ (o : Option Ground). IsTrue (is_some o) ↔ Grants member base graph c.args.how c.args.at.now c.args.agent.now c.args.mode)
          (sym (ground ∙ ap found of)) (some_is_granted member base graph c.args.how c.args.at.now c.args.agent.now c.args.mode own);
    }
