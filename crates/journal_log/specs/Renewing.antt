-- What a crash leaves while a journal is begun anew on a disk that has been used.
use Rattle.std.specs.Prelude.{◌≡◌, ◌⊎◌, ℕ, List, ◌∷◌, ◌++◌, length}
use Rattle.journal_log.specs.Frames.{framed_of}
use Rattle.journal_log.specs.Heads.{encoded_head}
use Rattle.journal_log.specs.Gates.{IsFirstGateClosed, IsOpening}

-- the same bytes but for the first gate, which may be another
pub record IsGateChanged (from image : List ℕ) : Type 0 where
  pub head : List ℕ
  pub rest : List ℕ
  pub before : ℕ
  pub after : ℕ
  pub whole : length head ≡ 16
  pub was : from ≡ head ++ (before ∷ rest)
  pub is : image ≡ head ++ (after ∷ rest)

-- one of these crash images whose first gate isn't 0, with any byte there: that gate is being
-- closed
abbrev pub IsClosing : (List ℕ → Type 0) → List ℕ → Type 0
IsClosing images image = (from : List ℕ) × images from × (IsFirstGateClosed from → ⊥)
    × IsGateChanged from image

-- before the first gate is opened: one of these images, or one whose first gate is being closed, or
-- one whose first gate is 0
abbrev pub IsBeforeOpening : (List ℕ → Type 0) → List ℕ → Type 0
IsBeforeOpening images image = images image ⊎ (IsClosing images image ⊎ IsFirstGateClosed image)

-- the new head, any first gate, and after it the new record with a closed gate
abbrev pub IsNewJournal : ℕ → List ℕ → List ℕ → Type 0
IsNewJournal epoch body image = IsOpening (encoded_head 2 epoch) (framed_of body) image

-- at any moment: as before the first gate is opened, or new
abbrev pub IsWhileRenewed : (List ℕ → Type 0) → ℕ → List ℕ → List ℕ → Type 0
IsWhileRenewed images epoch body image =
    IsBeforeOpening images image ⊎ IsNewJournal epoch body image
