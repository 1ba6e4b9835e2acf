use Rattle.std.proofs.Common.{rules}
use Rattle.pod_records.specs.Made.{added, gone}
use Rattle.pod_records.specs.Touched.{has_room}
use Rattle.pod_records.proofs.row_checks.has_room.Goals as goal

pub returns : goal.returns
unfolding has_room added gone
returns g c = search rules
