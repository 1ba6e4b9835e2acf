use Rattle.std.proofs.Common.{◌≡◌, ◌≤◌}
use Rattle.pod_pipe.proofs.ReadsLemmas.{AreCounted}
use Rattle.podctl_commands.proofs.Running.{Running}
use Rattle.podctl_commands.proofs.follow_command.take_input.Given as goal

-- what was read was taken, each read gave a byte, and no fault was forgotten
abbrev pub invariant-reads : goal.invariant-reads
invariant-reads g l =
    Running (g.S.Source.rest l.fn.input) (g.S.Source.rest l.input) l.following l.kept.items (g.K.Sink.taken l.fn.output) (g.K.Sink.taken l.output) l.counter
    × (g.S.Source.faults l.fn.input ≤ g.S.Source.faults l.input)
    × (g.K.Sink.faults l.fn.output ≤ g.K.Sink.faults l.output)
    × AreCounted (g.S.Source.reads l.fn.input) l.counter (g.S.Source.reads l.input)
    × (g.S.Source.ends l.input ≡ g.S.Source.ends l.fn.input)
