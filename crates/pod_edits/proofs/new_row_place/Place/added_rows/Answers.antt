use Rattle.std.proofs.Common.{ap, ◌∙◌, ◌+◌, ℕ, length}
use Rattle.pod_edits.proofs.Built.{place_added}
use Rattle.pod_edits.proofs.new_row_place.Place.added_rows.Goals as goal

pub returns : goal.returns
returns c = λ rows path plain is. ap (λ (n : ℕ). n + 1) (ap length c.as_slice.ensures) ∙ place_added rows path c.args.self.now plain is
