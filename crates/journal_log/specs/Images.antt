-- What a crash image of one disk stands for.
use Rattle.std.specs.Prelude.{◌≡◌, ◌≢◌, ◌⊎◌, ◌+◌, ℕ, List, [], ◌∷◌, ◌++◌}
use Rattle.std.specs.List.{sum_by}
use Rattle.journal_log.specs.Frames.{frame_len, BeginsWithClosedGate, IsBroken, FramesTo}
use Rattle.journal_log.specs.Heads.{encoded_head, IsKnownHead, NoHead}

-- The image is a journal of this format and epoch, and these are its records: a right head, and
-- from the first gate on the frames of the records up to a gate 0.
pub record Stands (format epoch : ℕ) (bodies : List (List ℕ)) (image : List ℕ) : Type 0 where
  pub known : IsKnownHead format epoch
  pub rest : List ℕ
  pub spells : image ≡ encoded_head format epoch ++ rest
  pub frames : FramesTo BeginsWithClosedGate bodies rest

-- it stands for these records, with one more or without it
abbrev pub IsEither : ℕ → ℕ → List (List ℕ) → List ℕ → List ℕ → Type 0
IsEither format epoch bodies body image = Stands format epoch bodies image
    ⊎ Stands format epoch (bodies ++ body ∷ []) image

-- it has bytes, and no right head is at its prefix
pub record HasNoHead (at : ℕ) (image : List ℕ) : Type 0 where
  pub some : image ≢ []
  pub wrong : NoHead image
  pub place : at ≡ 0

-- a right head and whole frames, and then, at this place, a gate without one
pub record HasNoFrame (at : ℕ) (image : List ℕ) : Type 0 where
  pub format : ℕ
  pub epoch : ℕ
  pub bodies : List (List ℕ)
  pub known : IsKnownHead format epoch
  pub rest : List ℕ
  pub spells : image ≡ encoded_head format epoch ++ rest
  pub frames : FramesTo IsBroken bodies rest
  pub place : at ≡ 16 + sum_by frame_len bodies

-- The image is damaged at this place: a wrong head at 0, and otherwise the first gate whose frame
-- isn't whole.
abbrev pub IsDamaged : ℕ → List ℕ → Type 0
IsDamaged at image = HasNoHead at image ⊎ HasNoFrame at image
