use Rattle.std.proofs.Common.{◌∙◌}
use Rattle.acl_rules.specs.Vocabulary.{acl_access_to, acl_mode, acl_control, acl_agent}
use Rattle.pod_rows.proofs.Tests.{three}
use Rattle.pod_rows.proofs.root_guard.gives_control.Goals as goal

pub returns : goal.returns
unfolding acl_access_to acl_mode acl_control acl_agent
returns c =
    c.are_all.ensures
    ∙ three c.has_value-about_root.result c.has_value-control.result c.has_value-to_owner.result _ _ _
    c.has_value-about_root.ensures c.has_value-control.ensures c.has_value-to_owner.ensures
