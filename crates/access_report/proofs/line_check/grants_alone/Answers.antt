use Rattle.std.proofs.Common.{◌≡◌, ◌∙◌, List, ap}
use Rattle.std.specs.Prelude.{is_some}
use Rattle.acl_rules.specs.declared.rule.Rule.{Rule}
use Rattle.pod_access.specs.Decision.{first_ground, rule_grants}
use Rattle.pod_access.specs.Grants.{Membership}
use Rattle.pod_access.specs.PodGrants.{membership}
use Rattle.access_report.proofs.CheckedRules.{alone_grants}
use Rattle.access_report.proofs.line_check.grants_alone.Goals as goal

pub returns : goal.returns
returns g c =
    let pod = g.S.PodState.pod c.args.state.now in
    let how = c.args.how in
    let at = c.args.at.now in
    let agent = c.args.agent.now in
    let mode = c.args.line.now.mode in
    let same : g.S.Groups.is_member c.args.state.now ≡ membership pod = λ i doc group agent. g.met.S.PodState.members_are c.args.state.now doc group agent i in
    c.is_some.ensures ∙ ap is_some c.granted.ensures.ground
    ∙ ap (λ (m : Membership). is_some (first_ground m c.in_ok-rules.rules.list how at agent mode)) same
    ∙ ap (λ (rs : List Rule). is_some (first_ground (membership pod) rs how at agent mode)) c.in_ok-rules.ensures
    ∙ alone_grants (membership pod) how at agent mode c.in_ok-alone.alone
    ∙ ap (λ (r : Rule). rule_grants (membership pod) how at agent mode r) c.in_ok-alone.ensures
