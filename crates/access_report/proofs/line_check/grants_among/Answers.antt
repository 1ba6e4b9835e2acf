use Rattle.std.proofs.Common.{◌≡◌, ◌∙◌, Bool, List, Option, ap, subst}
use Rattle.std.specs.Prelude.{IfOk}
use Rattle.std.specs.List.{find}
use Rattle.acl_rules.specs.declared.rule.Rule.{Rule}
use Rattle.pod_access.specs.PodGrants.{membership}
use Rattle.access_report.specs.Subjects.{grants_if, is_node}
use Rattle.access_report.proofs.line_check.grants_among.Goals as goal

pub returns-in-Some : goal.returns-in-Some
returns-in-Some g c =
    let pod = g.S.PodState.pod c.args.state.now in
    let found = rw c.in-Some.is at c.find_rule.ensures in
    subst (λ (o : Option Rule). IfOk c.grants_alone.result (λ (b : Bool). b ≡ grants_if (membership pod) c.args.how c.args.at.now c.args.agent.now c.args.line.now o))
    (found ∙ ap (λ (rs : List Rule). find (is_node c.args.line.now.basis.rule) rs) c.as_slice.ensures) c.grants_alone.ensures
