use Rattle.std.proofs.Common.{◌≡◌, ◌∙◌, Some, None, sym}
use Rattle.std.proofs.lemmas.Option.{same_Some}
use Rattle.pod_rows.specs.Access.{list_path}
use Rattle.pod_access.proofs.GoverningLists.{governing}
use Rattle.access_report.proofs.decision.decide_at.Goals as goal

pub decide-requires-clause-list : goal.decide-requires-clause-list
decide-requires-clause-list g c =
    let is = governing (g.S.PodState.pod c.args.state.now) c.args.path.now c.effective-effective.result.at.now c.effective-effective.result.how c.is_well_formed.ensures c.effective-effective.ensures.governs in
    same_Some _ _ (sym c.in-Some.is ∙ c.in_ok-list.ensures.acl ∙ is)

pub unreachable-requires : goal.unreachable-requires
unreachable-requires g c =
    let is = governing (g.S.PodState.pod c.args.state.now) c.args.path.now c.effective-effective.result.at.now c.effective-effective.result.how c.is_well_formed.ensures c.effective-effective.ensures.governs in
    let none : None ≡ Some (list_path c.effective-effective.result.at.now) = sym c.in-None.is ∙ c.in_ok-list.ensures.acl ∙ is in
    absurd cc
