-- How a run of a follower ends, and what it has read, written and reported then.
use Rattle.std.specs.Prelude.{◌≡◌, ◌≢◌, ◌⊎◌, ◌<◌, ◌≤◌, ℕ, ◌^◌, List, [], ◌∷◌, ◌++◌, length, take}
use Rattle.std.specs.Prelude.{Option, Some, None, codes}
use Rattle.pod_io.specs.Writing.{AddsOrPart, AddsPart, ExtendsBy, number_line}
use Rattle.pod_follow.specs.Frames.{HasNoFrame, frame_of, frames_of}
use Rattle.pod_io.specs.Counts.{next_count}
use Rattle.pod_pipe.specs.Streams.{AddsAllReads, AddsReads, AtEnd, Reads}
use Rattle.pod_rows.specs.State.{NumberedPod}
use Rattle.podctl_commands.specs.Following.{Follows, FollowsAll, IsRefused}
use Rattle.podctl_commands.specs.declared.follow_end.FollowEnd.{FollowEnd}
use Rattle.podctl_commands.specs.declared.follow_end.FollowEnd.TheVariants.{Done, BadFrame, ReadFault}
use Rattle.podctl_commands.specs.declared.follow_end.FollowEnd.TheVariants.{WriteFault, NoMemory, ReadLimit}

-- the status of each end
abbrev pub status_of_follow_end : FollowEnd → ℕ
status_of_follow_end (Done next) = 0
status_of_follow_end ReadFault = 3
status_of_follow_end WriteFault = 4
status_of_follow_end NoMemory = 7
status_of_follow_end ReadLimit = 14
status_of_follow_end (BadFrame frame) = 15

-- the next frame is whole, and nothing can be made of it
pub record BreaksAt (state : Option NumberedPod) (rest : List ℕ) : Type 0 where
  pub body : List ℕ
  pub more : List ℕ
  pub whole : rest ≡ frame_of body ++ more
  pub refused : IsRefused state body

-- The next frame is longer than any record: the first byte of its length says 2^63 bytes or more,
-- which no disk holds.
abbrev pub IsTooLong : List ℕ → Type 0
IsTooLong [] = ⊥
IsTooLong (first ∷ more) = 128 ≤ first

-- The next frame isn't whole yet, and may become so.
pub record IsUnfinished (rest : List ℕ) : Type 0 where
  pub no_frame : HasNoFrame rest
  pub not_too_long : IsTooLong rest → ⊥

-- it never becomes whole
pub record NeverEnds (rest : List ℕ) : Type 0 where
  pub no_frame : HasNoFrame rest
  pub too_long : IsTooLong rest

-- the input ended inside a frame, or before the first one
pub record EndsInside (bodies : List (List ℕ)) (rest : List ℕ) (left : Option (List ℕ))
    : Type 0 where
  pub unfinished : IsUnfinished rest
  pub cut : (rest ≢ []) ⊎ (bodies ≡ [])
  pub at_end : AtEnd left

-- the input ended after a whole frame, and the follower can apply the entry of this number next
pub record EndsWhole (state : Option NumberedPod) (rest : List ℕ) (next : ℕ)
    (left : Option (List ℕ)) : Type 0 where
  pub last : NumberedPod
  pub state_is : state ≡ Some last
  pub next_is : next ≡ last.next
  pub nothing_left : rest ≡ []
  pub at_end : AtEnd left

-- a part of the response to the read that the next frame is, which isn't all of it
pub record CutsResponse (state : Option NumberedPod) (rest part : List ℕ) : Type 0 where
  pub body : List ℕ
  pub more : List ℕ
  pub text : List ℕ
  pub after : Option NumberedPod
  pub whole : rest ≡ frame_of body ++ more
  pub follows : Follows state body text after
  pub count : ℕ
  pub less : count < length text
  pub part_is : part ≡ take count text

-- A whole run, whose last line failed.
pub record LastLineFailed (state : Option NumberedPod) (rest part : List ℕ)
    (left : Option (List ℕ)) : Type 0 where
  pub next : ℕ
  pub ends : EndsWhole state rest next left
  pub nothing_more : part ≡ []

module _ (read : List ℕ) (bodies : List (List ℕ)) (rest : List ℕ) (state : Option NumberedPod)
    (part : List ℕ) (left : Option (List ℕ)) where
  -- What follows the frames that were taken in the bytes that were read, and what was written after
  -- their responses, by the end.
  abbrev pub EndsSo : FollowEnd → Type 0
  EndsSo (Done next) = EndsWhole state rest next left × (part ≡ [])
  EndsSo (BadFrame frame) = (frame ≡ length bodies) × (part ≡ [])
      × (BreaksAt state rest ⊎ (NeverEnds rest ⊎ EndsInside bodies rest left))
  EndsSo ReadFault = IsUnfinished rest × (part ≡ [])
  EndsSo ReadLimit = IsUnfinished rest × (part ≡ []) × (2 ^ 40 ≤ length read)
  EndsSo NoMemory = part ≡ []
  EndsSo WriteFault =
      CutsResponse state rest part ⊎ LastLineFailed state rest part left

-- The bytes that were read begin with these frames, which the follower took in their order, from
-- none on, and what was written are their responses.
pub record FollowsInput (end : FollowEnd) (old_input new_input old_output new_output
    : Option (List ℕ)) : Type 0 where
  pub read : List ℕ
  pub bodies : List (List ℕ)
  pub rest : List ℕ
  pub text : List ℕ
  pub state : Option NumberedPod
  pub part : List ℕ
  pub reads : Reads read old_input new_input
  pub parts : read ≡ frames_of bodies ++ rest
  pub follows : FollowsAll None bodies text state
  pub writes : ExtendsBy (text ++ part) old_output new_output
  pub ends : EndsSo read bodies rest state part new_input end

-- the last line on the error sink
abbrev pub line_of_follow_end : FollowEnd → List ℕ
line_of_follow_end (Done next) = number_line (codes "follow: next=") next
line_of_follow_end (BadFrame frame) = number_line (codes "frame ") frame
line_of_follow_end _ = []

-- What the error sink has: the line of the end, or a part of it where its count increased. A line of
-- status 0 that fails makes the end a write fault; another that fails changes nothing.
abbrev pub ReportsFollowEnd : FollowEnd → Option (List ℕ) → Option (List ℕ) → ℕ → ℕ → Type 0
ReportsFollowEnd (Done next) old new before after = ExtendsBy (line_of_follow_end (Done next)) old new
ReportsFollowEnd (BadFrame frame) old new before after =
    AddsOrPart (line_of_follow_end (BadFrame frame)) old new before after
ReportsFollowEnd WriteFault old new before after = (new ≡ old) ⊎ ((next : ℕ)
    × AddsPart (line_of_follow_end (Done next)) old new before after)
ReportsFollowEnd ReadFault old new before after = new ≡ old
ReportsFollowEnd NoMemory old new before after = new ≡ old
ReportsFollowEnd ReadLimit old new before after = new ≡ old

-- the end of status 0, the only one whose line may fail
abbrev pub IsDone : FollowEnd → Type 0
IsDone (Done next) = Unit {0}
IsDone _ = ⊥

-- internal: how a run ends that ended so: where its line of status 0 can't be written, that is a
-- write fault
abbrev pub ComesOf : FollowEnd → FollowEnd → Type 0
ComesOf end told = (told ≡ end) ⊎ (IsDone end × (told ≡ WriteFault))

-- The reads that found the end of the input: the last read of a run that ended there, and no other.
-- So nothing is read after the end.
abbrev pub MeetsFramesEnd : FollowEnd → ℕ → ℕ → Type 0
MeetsFramesEnd (Done next) old new = new ≡ next_count old
MeetsFramesEnd (BadFrame frame) old new = (new ≡ old) ⊎ (new ≡ next_count old)
MeetsFramesEnd WriteFault old new = (new ≡ old) ⊎ (new ≡ next_count old)
MeetsFramesEnd _ old new = new ≡ old

-- The counts of the input: there were at most 2^40 reads, exactly so many where a run ended by their
-- limit.
pub record CountsFrames (end : FollowEnd) (old_reads new_reads old_ends new_ends : ℕ)
    : Type 0 where
  pub reads : AddsReads old_reads new_reads
  pub limit : end ≡ ReadLimit → AddsAllReads old_reads new_reads
  pub ends : MeetsFramesEnd end old_ends new_ends
