use Rattle.std.proofs.Common.{◌≡◌, ◌++◌, false, sym, ap, ◌∙◌}
use Rattle.std.specs.Prelude.{codes}
use Rattle.pod_path.specs.Hierarchy.{is_auxiliary, subject_of}
use Rattle.pod_path.proofs.Names.{meta}
use Rattle.pod_path.proofs.NormalPaths.{parts_of, is_path}
use Rattle.pod_path.proofs.Suffixes.{with_suffix}
use Rattle.pod_path.proofs.Subjects.{meta_back}
use Rattle.pod_path.proofs.path.Path.meta.Goals as goal

pub appended-requires : goal.appended-requires
appended-requires c =
    let plain : is_auxiliary c.args.self.now ≡ false = sym c.is_auxiliary.ensures.is ∙ c.if-is_auxiliary.false in
    is_path (c.args.self.now ++ codes ".meta") (with_suffix c.args.self.now (codes ".meta") meta (parts_of c.args.self.now c.is_auxiliary.ensures.path) plain)

pub returns-clause-back : goal.returns-clause-back
returns-clause-back c = ap subject_of c.in_ok-meta.ensures ∙ meta_back c.args.self.now
