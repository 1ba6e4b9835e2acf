-- What a walk along the gates of a disk finds.
use Rattle.std.specs.Prelude.{◌≡◌, ◌≢◌, ◌⊎◌, ◌+◌, ◌<◌, ◌^◌, ℕ, List, Option, [], ◌∷◌, ◌++◌, length}
use Rattle.std.specs.Prelude.{drop, MatchOption, false}
use Rattle.pod_io.specs.Visible.{IfVisible}
use Rattle.journal_log.specs.Frames.{framed_of, opened}
use Rattle.journal_log.specs.Heads.{encoded_head, IsKnownHead}
use Rattle.journal_log.specs.Images.{HasNoFrame}
use Rattle.journal_log.specs.Gates.{IsClosed, IsGated}
use Rattle.journal_log.specs.JournalState.{JournalState}
use Rattle.journal_log.specs.CleanJournal.{IsShort, IsJournalPrefix}
use Rattle.journal_log.specs.declared.head.Head.{Head}
use Rattle.journal_log.specs.declared.record_walk.Found.{Found}
use Rattle.journal_log.specs.declared.record_walk.Walk.{Walk}
use Rattle.journal_log.specs.declared.record_walk.Walk.TheVariants as walk

-- a journal with this head whose last gate is at this offset
abbrev pub state_at : Head → ℕ → JournalState
state_at head end = record { end = end; doubt = false; format = head.format; epoch = head.epoch }

-- its bytes before that gate
abbrev pub prefix_of : Head → List (List ℕ) → List ℕ
prefix_of head bodies = encoded_head head.format head.epoch ++ opened bodies

-- so far: these records are after gates 1 before this offset, and the last of them has a next gate
pub record IsReadTo (content : Option (List ℕ)) (size : ℕ) (head : Head) (bodies : List (List ℕ))
    (at : ℕ) : Type 0 where
  pub is_prefix : IsJournalPrefix (state_at head at) bodies (prefix_of head bodies)
  pub next : (bodies ≡ []) ⊎ (at < size)
  pub visible : IfVisible content (λ disk. disk ≡ prefix_of head bodies ++ drop at disk)

-- the gate after the records is closed
pub record IsReadToEnd (content : Option (List ℕ)) (head : Head) (bodies : List (List ℕ))
    (end : ℕ) : Type 0 where
  pub is_prefix : IsJournalPrefix (state_at head end) bodies (prefix_of head bodies)
  pub visible : IfVisible content (IsClosed (prefix_of head bodies))

-- the last record's gate is at this offset and is neither 0 nor 1, and the gate after it is closed
pub record HasTornGate (content : Option (List ℕ)) (head : Head) (bodies : List (List ℕ))
    (end at : ℕ) : Type 0 where
  pub before : List (List ℕ)
  pub last : List ℕ
  pub gate : ℕ
  pub are : bodies ≡ before ++ last ∷ []
  pub is_prefix : IsJournalPrefix (state_at head at) before (prefix_of head before)
  pub short : IsShort last
  pub ends : end ≡ at + length (framed_of last)
  pub other : gate ≢ 0
  pub not_1 : gate ≢ 1
  pub visible : IfVisible content (IsGated (prefix_of head before) gate (framed_of last))

-- what was found is what the disk tells
pub record IsFound (content : Option (List ℕ)) (found : Found) : Type 0 where
  pub known : IsKnownHead found.head.format found.head.epoch
  pub room : found.end < 2 ^ 63
  pub gates : MatchOption found.torn_gate
      (IsReadToEnd content found.head found.records.items found.end)
      (HasTornGate content found.head found.records.items found.end)

-- a walk ends after the last record, or at the first gate without a whole frame
abbrev pub IsWalked : Option (List ℕ) → Walk → Type 0
IsWalked content (walk.Whole found) = IsFound content found
IsWalked content (walk.Broken at) = IfVisible content (HasNoFrame at)
