-- internal: how a follower takes frames, step by step
use Rattle.std.specs.Prelude.{◌≡◌, ◌⊎◌, ℕ, ◌+◌, Bool, true, false, List, [], ◌++◌}
use Rattle.std.specs.Prelude.{length, Option, Some, None}
use Rattle.pod_io.specs.Writing.{ExtendsBy, ExtendsByPart}
use Rattle.pod_follow.specs.Followed.{IsStart, Takes}
use Rattle.pod_follow.specs.Frames.{frame_of, frames_of}
use Rattle.pod_follow.specs.declared.follower.Took.{Took}
use Rattle.pod_rows.specs.State.{NumberedPod}
use Rattle.podctl_commands.specs.FollowEnds.{NeverEnds}
use Rattle.podctl_commands.specs.Following.{Follows, FollowsAll, IsPassedEntry, IsRefused}
use Rattle.podctl_commands.specs.Reads.{IsReadText}
use Rattle.podctl_commands.specs.declared.follow_end.FollowEnd.{FollowEnd}
use Rattle.podctl_commands.specs.declared.follow_end.FollowEnd.TheVariants as ends
use Rattle.podctl_commands.specs.declared.frame_input.FrameFault.{FrameFault}
use Rattle.podctl_commands.specs.declared.frame_input.FrameFault.TheVariants as faults
use Rattle.podctl_commands.specs.declared.frame_input.Following.{Following}

-- the follower began with the snapshot that the body is
pub record IsStarted (body : List ℕ) (new : Option NumberedPod) : Type 0 where
  pub state : NumberedPod
  pub is : IsStart body state
  pub after : new ≡ Some state

-- it took the entry that the body is
pub record TakesEntryOf (old : NumberedPod) (body text : List ℕ) (new : NumberedPod) : Type 0 where
  pub took : Took
  pub takes : Takes old body new took
  pub passed : IsPassedEntry took
  pub silent : text ≡ []

-- or answered the read
pub record AnswersTo (old : NumberedPod) (body text : List ℕ) (new : NumberedPod) : Type 0 where
  pub answers : IsReadText old body text
  pub after : new ≡ old

abbrev pub ReadsOn : NumberedPod → List ℕ → List ℕ → NumberedPod → Type 0
ReadsOn old body text new = TakesEntryOf old body text new ⊎ AnswersTo old body text new

-- one frame was taken, and its response written
pub record FollowedOne (old : Option NumberedPod) (body : List ℕ) (new : Option NumberedPod)
    (out out_now : Option (List ℕ)) : Type 0 where
  pub text : List ℕ
  pub follows : Follows old body text new
  pub written : ExtendsBy text out out_now

-- what was written of a frame that wasn't taken
abbrev pub StoppedIn : FrameFault → Option NumberedPod → List ℕ → Option (List ℕ)
    → Option (List ℕ) → Type 0
StoppedIn faults.Refused state body out out_now = IsRefused state body × (out_now ≡ out)
StoppedIn faults.TooLong state body out out_now = ⊥
StoppedIn faults.WriteFault state body out out_now = (text : List ℕ)
    × (after : Option NumberedPod) × Follows state body text after × ExtendsByPart text out out_now
StoppedIn faults.NoMemory state body out out_now = out_now ≡ out

-- Frames were taken with which the bytes begin, and this is left.
pub record FollowedTo (old : Following) (bytes rest : List ℕ) (new : Following)
    (out out_now : Option (List ℕ)) : Type 0 where
  pub bodies : List (List ℕ)
  pub text : List ℕ
  pub parts : bytes ≡ frames_of bodies ++ rest
  pub follows : FollowsAll old.follower bodies text new.follower
  pub frames : new.frames ≡ old.frames + length bodies
  pub written : ExtendsBy text out out_now

-- what is left where frames are no longer taken
abbrev pub Leaves : FrameFault → Option NumberedPod → List ℕ → Option (List ℕ)
    → Option (List ℕ) → Type 0
Leaves faults.Refused state rest out out_now = (body : List ℕ) × (more : List ℕ)
    × (rest ≡ frame_of body ++ more) × IsRefused state body × (out_now ≡ out)
Leaves faults.TooLong state rest out out_now = NeverEnds rest × (out_now ≡ out)
Leaves faults.WriteFault state rest out out_now = (body : List ℕ) × (more : List ℕ)
    × (rest ≡ frame_of body ++ more) × (text : List ℕ) × (after : Option NumberedPod)
    × Follows state body text after × ExtendsByPart text out out_now
Leaves faults.NoMemory state rest out out_now = out_now ≡ out

-- Frames were taken with which the bytes begin, and then no more.
pub record Stopped (fault : FrameFault) (old : Following) (bytes : List ℕ) (new : Following)
    (out out_now : Option (List ℕ)) : Type 0 where
  pub bodies : List (List ℕ)
  pub rest : List ℕ
  pub text : List ℕ
  pub state : Option NumberedPod
  pub mid : Option (List ℕ)
  pub parts : bytes ≡ frames_of bodies ++ rest
  pub follows : FollowsAll old.follower bodies text state
  pub frames : new.frames ≡ old.frames + length bodies
  pub written : ExtendsBy text out mid
  pub leaves : Leaves fault state rest mid out_now

abbrev pub end_of_frames : Option NumberedPod → ℕ → Bool → FollowEnd
end_of_frames (Some state) frames true = ends.Done state.next
end_of_frames (Some state) frames false = ends.BadFrame frames
end_of_frames None frames whole = ends.BadFrame frames

-- the end of a run where the input ended
abbrev pub end_at : Following → Bool → FollowEnd
end_at following whole = end_of_frames following.follower following.frames whole

-- the end of a run where frames are no longer taken
abbrev pub fault_end : FrameFault → ℕ → FollowEnd
fault_end faults.Refused frames = ends.BadFrame frames
fault_end faults.TooLong frames = ends.BadFrame frames
fault_end faults.WriteFault frames = ends.WriteFault
fault_end faults.NoMemory frames = ends.NoMemory
