use Rattle.std.proofs.Common.{◌≡◌, length}
use Rattle.pod_command.specs.Encodable.{path_cmp}
use Rattle.stored_forms.specs.Reading.{is_rising}
use Rattle.stored_forms.proofs.snapshot_form.are_rising.Given as goal

abbrev pub invariant-loop-first : goal.invariant-loop-first
invariant-loop-first l = is_rising path_cmp l.rest ≡ is_rising path_cmp l.rows

abbrev pub decreases-loop-first : goal.decreases-loop-first
decreases-loop-first l = length l.rest
