use Rattle.std.proofs.Common.{◌≡◌, ◌++◌, false, sym, ◌∙◌}
use Rattle.std.specs.Prelude.{codes}
use Rattle.pod_path.specs.Hierarchy.{is_auxiliary}
use Rattle.pod_path.proofs.Names.{acl}
use Rattle.pod_path.proofs.NormalPaths.{parts_of, is_path}
use Rattle.pod_path.proofs.Suffixes.{with_suffix}
use Rattle.pod_path.proofs.path.Path.acl.Goals as goal

pub appended-requires : goal.appended-requires
appended-requires c =
    let plain : is_auxiliary c.args.self.now ≡ false = sym c.is_auxiliary.ensures.is ∙ c.if-is_auxiliary.false in
    is_path (c.args.self.now ++ codes ".acl") (with_suffix c.args.self.now (codes ".acl") acl (parts_of c.args.self.now c.is_auxiliary.ensures.path) plain)
