use Rattle.std.proofs.Common.{rules, ◌≡◌, ◌∙◌, ap}
use Rattle.std.specs.Prelude.{is_some}
use Rattle.pod_rows.specs.Pod.{is_row}
use Rattle.row_pages.specs.Items.{item_at}
use Rattle.pod_pages.specs.State.{VersionState}
use Rattle.pod_pages.proofs.Placing.{found_is}
use Rattle.pod_pages.proofs.version.VersionTaken.taken_text.Goals as goal

pub returns : goal.returns
returns c =
    let found : c.is_some.result ≡ is_some (item_at c.self.inside.rows c.args.text.now) = search rules in
    found ∙ found_is c.self.inside.rows c.args.text.now ∙ ap (λ (s : VersionState). is_row s.pod.rows c.args.text.now) c.self.view_is
