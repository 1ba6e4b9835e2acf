use Rattle.std.proofs.Common.{◌≡◌, drop}
use Rattle.pod_disk.specs.Tears.{left_torn}
use Rattle.pod_disk.proofs.crash_image.left_after.Given as goal

-- what is left of the image so far after the other calls is left after all of them
abbrev pub invariant-loop-noted : goal.invariant-loop-noted
invariant-loop-noted l =
    left_torn l.all l.content.items l.image.items (drop l.noted-index l.calls) l.tears ≡ left_torn l.all l.fn.content.items l.fn.content.items l.calls l.all
