use Rattle.pod_access.proofs.BasisLemmas.{some_basis, no_basis, of_governed}
use Rattle.std.proofs.Common.{◌∙◌, sym}
use Rattle.pod_access.proofs.granted_needs.find_basis.Goals as goal

pub returns-in_ok-basis-in-Some : goal.returns-in_ok-basis-in-Some
returns-in_ok-basis-in-Some g c =
    let pod = g.S.PodState.pod c.args.state.now in
    let e = c.effective-effective.result in
    some_basis pod c.args.agent.now c.args.need.now e.at.now e.how e.rules.now.list c.in-Some.ground c.in_ok-list-in-Some.list c.in_ok-basis-in-Some.basis
    c.effective-effective.ensures.governs c.effective-effective.ensures.rules (sym c.in-Some.is ∙ c.ground_in.ensures.ground)
    (of_governed pod c.args.need.now.path c.in_ok-list-in-Some.list e.at.now e.how c.effective-effective.ensures.governs c.in_ok-list-in-Some.ensures)
    c.in_ok-basis-in-Some.ensures

pub returns-in-None : goal.returns-in-None
returns-in-None g c =
    let e = c.effective-effective.result in
    no_basis (g.S.PodState.pod c.args.state.now) c.args.agent.now c.args.need.now e.at.now e.how c.effective-effective.ensures.governs
    (sym c.in-None.is ∙ c.ground_in.ensures.ground)
