use Rattle.std.proofs.Common.{◌≡◌, ◌++◌, ◌≤◌, List, ℕ, length}
use Rattle.pod_io.specs.Writing.{ExtendsBy}
use Rattle.conn_talk.proofs.response_writing.write_out.Given as goal

-- what was given is written, and no fault was forgotten
abbrev pub invariant-pieces : goal.invariant-pieces
invariant-pieces g l =
    ((done : List ℕ) × (done ++ l.out ≡ l.fn.out) × ExtendsBy done (g.K.Output.taken l.fn.output) (g.K.Output.taken l.output))
    × (g.K.Output.faults l.fn.output ≤ g.K.Output.faults l.output)
    × g.K.Output.follows l.fn.output l.output

abbrev pub decreases-pieces : goal.decreases-pieces
decreases-pieces g l = length l.out
