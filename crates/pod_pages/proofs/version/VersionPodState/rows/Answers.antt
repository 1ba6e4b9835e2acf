use Rattle.std.proofs.Common.{◌≡◌, ◌∙◌, [], ap}
use Rattle.row_pages.specs.Items.{items_below, rows_of}
use Rattle.pod_pages.specs.State.{VersionState}
use Rattle.pod_pages.proofs.VersionLaws.{rows_below_all}
use Rattle.pod_pages.proofs.version.VersionPodState.rows.Goals as goal

pub returns : goal.returns
returns c =
    let i = c.self.inside in
    let below : c.as_slice.result.now ≡ items_below i.rows [] = c.as_slice.ensures.value ∙ c.in_ok-items.ensures in
    c.from_vec.ensures.items ∙ c.in_ok-rows.ensures ∙ ap rows_of below ∙ rows_below_all i.rows ∙ ap (λ (s : VersionState). s.pod.rows) c.self.view_is
