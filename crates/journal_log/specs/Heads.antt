-- The head of a journal: sixteen bytes before the first gate.
use Rattle.std.specs.Prelude.{◌≡◌, ◌⊎◌, ◌+◌, ◌<◌, ◌≤◌, ℕ, List, [], ◌∷◌, ◌++◌}
use Rattle.journal_log.specs.declared.head.TheConstants.{EPOCH_LIMIT}
use Rattle.std.specs.Int.{to_be_bytes, w64}

-- `PODJRNL` and the digit of the format
abbrev pub mark_of : ℕ → List ℕ
mark_of format = 80 ∷ 79 ∷ 68 ∷ 74 ∷ 82 ∷ 78 ∷ 76 ∷ (48 + format) ∷ []

-- the mark, and the epoch as eight bytes, the greatest first
unfoldable pub encoded_head : ℕ → ℕ → List ℕ
encoded_head format epoch = mark_of format ++ to_be_bytes w64 epoch

-- Format 1 or 2, and an epoch of at most 2^63. A journal of format 1 has a lesser one, so that
-- there is one after it.
pub record IsKnownHead (format epoch : ℕ) : Type 0 where
  pub either : (format ≡ 1) ⊎ (format ≡ 2)
  pub most : epoch ≤ EPOCH_LIMIT
  pub old : format ≡ 1 → epoch < EPOCH_LIMIT

-- a head of format 2 with this epoch, a gate 0 after it, and nothing else
abbrev pub IsClosedHead : ℕ → List ℕ → Type 0
IsClosedHead epoch image = image ≡ encoded_head 2 epoch ++ 0 ∷ []

-- the bytes don't begin with a right head
abbrev pub NoHead : List ℕ → Type 0
NoHead bytes = (format epoch : ℕ) (rest : List ℕ) → IsKnownHead format epoch
    → bytes ≡ encoded_head format epoch ++ rest → ⊥
