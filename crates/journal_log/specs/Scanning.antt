-- What a reader finds at a gate.
use Rattle.std.specs.Prelude.{◌≡◌, ◌≢◌, ◌⊎◌, ◌+◌, ◌≤◌, ℕ, List, ◌∷◌, ◌++◌, length, drop}
use Rattle.std.specs.Int.{to_be_bytes, w64}
use Rattle.journal_log.specs.Frames.{sized, BeginsWithClosedGate, IsBroken}
use Rattle.journal_log.specs.declared.frame_scan.Start.{Start}
use Rattle.journal_log.specs.declared.frame_scan.Start.TheVariants as start
use Rattle.journal_log.specs.declared.frame_scan.Frame.{Frame}
use Rattle.journal_log.specs.declared.frame_scan.Frame.TheVariants as frame

-- this byte is there
abbrev pub IsByteAt : ℕ → List ℕ → ℕ → Type 0
IsByteAt at bytes byte = drop at bytes ≡ byte ∷ drop (at + 1) bytes

-- what the gate and the eight bytes after it say
abbrev pub IsStart : Start → List ℕ → Type 0
IsStart start.End bytes = BeginsWithClosedGate bytes
IsStart (start.Open gate len) bytes = bytes ≡ gate ∷ (to_be_bytes w64 len ++ drop 9 bytes)
IsStart start.Broken bytes = IsBroken bytes

-- an open gate's record lies within the disk
abbrev pub StartFits : ℕ → ℕ → Start → Type 0
StartFits at size start.End = Unit {0}
StartFits at size (start.Open gate len) = (gate ≢ 0) × (at + len + 10 ≤ size)
StartFits at size start.Broken = Unit {0}

-- a gate, and after it a whole record
pub record IsRecord (gate : ℕ) (body : List ℕ) (bytes : List ℕ) : Type 0 where
  pub next : ℕ
  pub rest : List ℕ
  pub spells : bytes ≡ gate ∷ (sized body ++ (next ∷ rest))
  pub last : (gate ≡ 1) ⊎ (next ≡ 0)

-- what the gate and its record say
abbrev pub IsSeen : Frame → List ℕ → Type 0
IsSeen frame.End bytes = BeginsWithClosedGate bytes
IsSeen (frame.Record gate body) bytes = IsRecord gate body bytes
IsSeen frame.Broken bytes = IsBroken bytes

abbrev pub FrameFits : ℕ → ℕ → Frame → Type 0
FrameFits at size frame.End = Unit {0}
FrameFits at size (frame.Record gate body) = (gate ≢ 0) × (at + length body + 10 ≤ size)
FrameFits at size frame.Broken = Unit {0}
