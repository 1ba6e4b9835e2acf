use Rattle.std.proofs.Common.{rules, ◌≡◌, ◌∙◌, refl, ap, map, filter, List}
use Rattle.pod_rows.specs.Tree.{children_of, is_child_of}
use Rattle.row_pages.specs.Delimited.{items_direct}
use Rattle.row_pages.specs.Items.{Placed}
use Rattle.pod_pages.specs.State.{VersionState}
use Rattle.pod_pages.specs.Versions.{state_of}
use Rattle.pod_pages.proofs.VersionLaws.{children_direct}
use Rattle.pod_pages.proofs.version.VersionPodState.children.Goals as goal

pub returns : goal.returns
returns c =
    let i = c.self.inside in
    let below : c.as_slice.result.now ≡ items_direct i.rows c.args.path.now = c.as_slice.ensures.value ∙ c.in_ok-below.ensures ∙ ap (items_direct i.rows) (search rules) in
    c.from_vec.ensures.items ∙ c.in_ok-paths.ensures
    ∙ ap (λ (is : List Placed). map (λ (x : Placed). x.row.path) (filter (λ (x : Placed). is_child_of c.args.path.now x.row) is)) below
    ∙ children_direct (state_of i.next i.base i.owner i.rows i.effects.items i.oldest).pod i.rows c.args.path.now c.self.invariant.well_formed refl
    ∙ ap (λ (s : VersionState). children_of s.pod.rows c.args.path.now) c.self.view_is
