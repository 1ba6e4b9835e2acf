use Rattle.std.proofs.Common.{rules}
use Rattle.std.specs.Prelude.{◌↔◌, IsTrue}
use Rattle.pod_path.specs.Hierarchy.{IsInside}
use Rattle.pod_path.proofs.NormalPaths.{parts_of}
use Rattle.pod_path.proofs.Ancestors.{inside_under, under_inside}
use Rattle.pod_path.proofs.path.Path.under.Goals as goal

pub returns-clause-ancestor : goal.returns-clause-ancestor
returns-clause-ancestor c =
    let p = c.args.self.now in
    let q = c.args.other.now in
    let inside : IsTrue c.is_inside.result ↔ IsInside p q = search rules in
    (λ h. inside_under p q (inside.0 h), λ u. inside.1 (under_inside p q (parts_of p c.as_str.ensures.path).characters u))
