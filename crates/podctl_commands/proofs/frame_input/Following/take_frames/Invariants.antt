use Rattle.std.proofs.Common.{◌≤◌, length}
use Rattle.podctl_commands.specs.Steps.{FollowedTo}
use Rattle.podctl_commands.proofs.frame_input.Following.take_frames.Given as goal

-- the frames so far are taken
abbrev pub invariant-loop-body : goal.invariant-loop-body
invariant-loop-body g l =
    FollowedTo l.fn.self l.fn.bytes l.rest l.self (g.K.Sink.taken l.fn.output) (g.K.Sink.taken l.output)
    × (g.K.Sink.faults l.fn.output ≤ g.K.Sink.faults l.output)

abbrev pub decreases-loop-body : goal.decreases-loop-body
decreases-loop-body g l = length l.rest
