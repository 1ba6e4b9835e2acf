use Rattle.std.proofs.Common.{sym, ◌∙◌}
use Rattle.pod_access.specs.AllowField.{modes_at, modes_in}
use Rattle.pod_access.proofs.wac_allow_field.modes_at.Goals as goal

pub returns-then-is_acl : goal.returns-then-is_acl
unfolding modes_at
returns-then-is_acl g c =
    let pod = g.S.PodState.pod c.args.state.now in
    c.list_modes.ensures ∙ sym (λ i. modes_in pod c.args.agent.now ((sym c.is_acl.ensures ∙ c.if-is_acl.true) i) (c.effective-effective.ensures.governs i))

pub returns-else-is_acl : goal.returns-else-is_acl
unfolding modes_at
returns-else-is_acl g c =
    let pod = g.S.PodState.pod c.args.state.now in
    c.resource_modes.ensures ∙ sym (λ i. modes_in pod c.args.agent.now ((sym c.is_acl.ensures ∙ c.if-is_acl.false) i) (c.effective-effective.ensures.governs i))
