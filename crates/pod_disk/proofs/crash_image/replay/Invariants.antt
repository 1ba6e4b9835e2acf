use Rattle.std.proofs.Common.{◌≡◌, drop}
use Rattle.pod_disk.specs.NotedCalls.{content_at}
use Rattle.pod_disk.proofs.crash_image.replay.Given as goal

abbrev pub invariant-loop-noted : goal.invariant-loop-noted
invariant-loop-noted l = content_at l.content.items (drop l.noted-index l.calls) ≡ content_at l.fn.content.items l.calls
