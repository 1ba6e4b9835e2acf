use Rattle.std.proofs.Common.{◌≤◌, length}
use Rattle.pod_disk.proofs.crash_image.synced_calls.Given as goal

abbrev pub invariant-loop-count : goal.invariant-loop-count
invariant-loop-count l = l.count ≤ length l.calls

abbrev pub decreases-loop-count : goal.decreases-loop-count
decreases-loop-count l = l.count
