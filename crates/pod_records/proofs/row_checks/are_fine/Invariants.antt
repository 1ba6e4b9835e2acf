use Rattle.std.proofs.Common.{◌≡◌, take, true}
use Rattle.std.specs.List.{list_all}
use Rattle.pod_records.specs.Made.{found_in}
use Rattle.pod_records.specs.Touched.{is_fine}
use Rattle.pod_records.proofs.row_checks.are_fine.Given as goal

abbrev pub invariant-loop-one : goal.invariant-loop-one
invariant-loop-one g l = list_all (λ one. is_fine (g.S.PodState.pod l.state) (found_in (g.S.PodState.pod l.state).rows l.made) one.path) (take l.one-index l.made) ≡ true
