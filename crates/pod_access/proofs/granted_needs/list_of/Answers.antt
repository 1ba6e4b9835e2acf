use Rattle.std.proofs.Common.{◌≡◌, Some, None, sym, ◌∙◌}
use Rattle.std.proofs.lemmas.Option.{same_Some}
use Rattle.pod_rows.specs.Access.{list_path}
use Rattle.pod_access.proofs.GoverningLists.{governing}
use Rattle.pod_access.proofs.BasisLemmas.{if_governed}
use Rattle.pod_access.proofs.granted_needs.list_of.Goals as goal

pub unreachable-requires : goal.unreachable-requires
unreachable-requires g c =
    let is = governing (g.S.PodState.pod c.args.state.now) c.args.path.now c.effective.result.at.now c.effective.result.how c.is_well_formed.ensures c.effective.ensures.governs in
    let none : None ≡ Some (list_path c.effective.result.at.now) = sym c.in-None.is ∙ c.in_ok-list.ensures.acl ∙ is in
    absurd cc

pub returns : goal.returns
returns g c =
    let pod = g.S.PodState.pod c.args.state.now in
    let is = governing pod c.args.path.now c.effective.result.at.now c.effective.result.how c.is_well_formed.ensures c.effective.ensures.governs in
    let same : Some c.in-Some.list ≡ Some (list_path c.effective.result.at.now) = sym c.in-Some.is ∙ c.in_ok-list.ensures.acl ∙ is in
    if_governed pod c.args.path.now c.in-Some.list c.effective.result.at.now c.effective.result.how c.effective.ensures.governs (same_Some _ _ same)
