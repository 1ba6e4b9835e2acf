use Rattle.std.proofs.Common.{◌≡◌, Bool, List, subst, sym, ap, ◌∙◌}
use Rattle.std.specs.Prelude.{◌↔◌, IsTrue}
use Rattle.pod_base.specs.EachTo.{EachTo}
use Rattle.pod_base.specs.declared.agent.Mode.{Mode}
use Rattle.pod_base.specs.declared.agent.Mode.TheVariants.{Read, Write, Append, Control}
use Rattle.acl_rules.specs.declared.rule.Rule.{Rule}
use Rattle.pod_access.specs.Decision.{allow_modes, granted_modes}
use Rattle.pod_access.specs.Grants.{Grants}
use Rattle.pod_access.proofs.Granting.{some_is_granted}
use Rattle.pod_access.proofs.granting_rules.granted_modes.Goals as goal

pub returns-clause-grants : goal.returns-clause-grants
returns-clause-grants g c = λ base graph of own.
    let member = g.G.Groups.is_member c.args.groups.now in
    let modes = λ (rules : List Rule). granted_modes member rules c.args.how c.args.at.now c.args.agent.now in
    let one = λ (mode : Mode). some_is_granted member base graph c.args.how c.args.at.now c.args.agent.now mode own in
    subst (EachTo (λ (mode : Mode) (granted : Bool). IsTrue granted ↔ Grants member base graph c.args.how c.args.at.now c.args.agent.now mode) allow_modes)
    (sym (c.find_modes.ensures ∙ ap modes (c.as_slice.ensures ∙ of)))
    (one Read, (one Write, (one Append, (one Control, tt))))
