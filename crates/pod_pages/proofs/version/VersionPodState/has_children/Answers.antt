use Rattle.std.proofs.Common.{◌∙◌, refl, ap}
use Rattle.pod_rows.specs.Tree.{has_child}
use Rattle.pod_pages.specs.State.{VersionState}
use Rattle.pod_pages.specs.Versions.{state_of}
use Rattle.pod_pages.proofs.VersionLaws.{direct_child}
use Rattle.pod_pages.proofs.version.VersionPodState.has_children.Goals as goal

pub returns : goal.returns
returns c =
    let i = c.self.inside in
    c.in_ok-found.ensures
    ∙ direct_child (state_of i.next i.base i.owner i.rows i.effects.items i.oldest).pod i.rows c.args.path.now c.self.invariant.well_formed refl
    ∙ ap (λ (s : VersionState). has_child s.pod.rows c.args.path.now) c.self.view_is
