use Rattle.std.proofs.Common.{◌≡◌, ◌∙◌, ℕ, List, true, sym, ap, subst}
use Rattle.std.specs.List.{All}
use Rattle.pod_rows.specs.Pod.{is_row}
use Rattle.pod_rows.specs.RowLists.{paths_below}
use Rattle.pod_rows.specs.State.{NumberedPod}
use Rattle.pod_rows.proofs.Listed.{rows_are_taken}
use Rattle.pod_rows.proofs.plain_rows.PlainRowsTakenNames.taken_below.Goals as goal

pub returns : goal.returns
returns c =
    subst (λ (s : NumberedPod). All (λ (p : List ℕ). is_row s.pod.rows p ≡ true) c.from_vec.result.items) c.self.view_is
    (subst (λ (ps : List (List ℕ)). All (λ (p : List ℕ). is_row c.self.inside.rows.items p ≡ true) ps) (sym (c.from_vec.ensures.items ∙ c.in_ok-paths.ensures ∙ ap (λ (rs : List _). paths_below rs c.args.text.now) c.as_slice.ensures.value))
    (rows_are_taken c.self.inside.rows.items c.args.text.now))
