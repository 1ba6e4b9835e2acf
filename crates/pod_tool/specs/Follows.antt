-- A follower over the streams of a run.
use Rattle.std.specs.Prelude.{◌≡◌, ◌⊎◌, ℕ}
use Rattle.podctl_commands.specs.FollowEnds.{CountsFrames, FollowsInput, ReportsFollowEnd, status_of_follow_end}
use Rattle.podctl_commands.specs.declared.follow_end.FollowEnd.{FollowEnd}
use Rattle.pod_tool.specs.Stores.{IsIdle}
use Rattle.pod_pipe.specs.RunStreams.{Streams}

-- What a run of `follow` reads, writes and reports.
pub record FollowsStreams (streams : Streams) (status : ℕ) : Type 0 where
  pub end : FollowEnd
  pub status_is : status ≡ status_of_follow_end end
  pub follows : FollowsInput end streams.old_input streams.new_input streams.old_output
      streams.new_output
  pub tells : ReportsFollowEnd end streams.old_errors streams.new_errors streams.old_error_faults
      streams.new_error_faults
  pub counts : CountsFrames end streams.old_reads streams.new_reads streams.old_ends streams.new_ends

-- out of memory before it began, it has done nothing
abbrev pub RunsFollow : Streams → ℕ → Type 0
RunsFollow streams status = ((status ≡ 7) × IsIdle streams) ⊎ FollowsStreams streams status
