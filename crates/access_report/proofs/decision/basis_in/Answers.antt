use Rattle.std.proofs.Common.{◌≡◌, ◌∙◌, sym, ap}
use Rattle.pod_access.specs.Decision.{first_ground}
use Rattle.pod_access.specs.Grants.{Membership}
use Rattle.pod_access.specs.PodGrants.{membership}
use Rattle.access_report.proofs.Decided.{basis_found, no_basis}
use Rattle.access_report.proofs.decision.basis_in.Goals as goal

pub returns-in_ok-basis-in-Some : goal.returns-in_ok-basis-in-Some
returns-in_ok-basis-in-Some g c =
    let pod = g.S.PodState.pod c.args.state.now in
    let same : g.S.Groups.is_member c.args.state.now ≡ membership pod = λ i doc group agent. g.met.S.PodState.members_are c.args.state.now doc group agent i in
    basis_found pod c.args.agent.now c.args.mode c.args.at.now c.args.how c.args.rules.now.list c.in-Some.ground c.args.list.now c.in_ok-basis-in-Some.basis c.requires.rules
    (sym c.in-Some.is ∙ c.granted.ensures.ground ∙ ap (λ (m : Membership). first_ground m c.args.rules.now.list c.args.how c.args.at.now c.args.agent.now c.args.mode) same)
    c.requires.list c.in_ok-basis-in-Some.ensures

pub returns-in-None : goal.returns-in-None
returns-in-None g c =
    let pod = g.S.PodState.pod c.args.state.now in
    let same : g.S.Groups.is_member c.args.state.now ≡ membership pod = λ i doc group agent. g.met.S.PodState.members_are c.args.state.now doc group agent i in
    no_basis pod c.args.agent.now c.args.mode c.args.at.now c.args.how c.args.rules.now.list c.requires.rules
    (sym c.in-None.is ∙ c.granted.ensures.ground ∙ ap (λ (m : Membership). first_ground m c.args.rules.now.list c.args.how c.args.at.now c.args.agent.now c.args.mode) same)
