use Rattle.std.proofs.Common.{◌≤◌, take}
use Rattle.pod_io.specs.Writing.{ExtendsBy}
use Rattle.pod_follow.specs.Frames.{frames_of}
use Rattle.podctl_commands.proofs.ship_command.write_frames.Given as goal

-- the frames so far are written
abbrev pub invariant-loop-record : goal.invariant-loop-record
invariant-loop-record g l = record {
  written : ExtendsBy (frames_of (take l.record-index l.fn.records)) (g.K.Sink.taken l.fn.output) (g.K.Sink.taken l.output);
  counts : g.K.Sink.faults l.fn.output ≤ g.K.Sink.faults l.output;
}
