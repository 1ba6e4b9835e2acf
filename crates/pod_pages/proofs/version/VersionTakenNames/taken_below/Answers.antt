use Rattle.std.proofs.Common.{rules, ◌≡◌, ◌∙◌, ℕ, List, true, map, ap, subst}
use Rattle.std.specs.List.{All}
use Rattle.pod_rows.specs.Pod.{is_row}
use Rattle.row_pages.specs.Items.{items_below, path_of}
use Rattle.pod_pages.specs.State.{VersionState}
use Rattle.pod_pages.proofs.TakenPaths.{items_are_taken}
use Rattle.pod_pages.proofs.version.VersionTakenNames.taken_below.Goals as goal

pub returns : goal.returns
returns c =
    let i = c.self.inside in
    let below : c.as_slice.result.now ≡ items_below i.rows c.args.text.now = c.as_slice.ensures.value ∙ c.in_ok-items.ensures ∙ ap (items_below i.rows) (search rules) in
    subst (λ (s : VersionState). All (λ (p : List ℕ). is_row s.pod.rows p ≡ true) c.from_vec.result.items) c.self.view_is
    (items_are_taken i.rows c.args.text.now c.from_vec.result.items (c.from_vec.ensures.items ∙ c.in_ok-paths.ensures ∙ ap (map path_of) below))
