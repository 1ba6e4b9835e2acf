-- What a crash leaves while a journal is opened.
use Rattle.std.specs.Prelude.{◌≡◌, ◌≢◌, ◌⊎◌, ℕ, List, [], ◌∷◌, ◌++◌}
use Rattle.journal_log.specs.Frames.{framed_of, opened}
use Rattle.journal_log.specs.Heads.{encoded_head}
use Rattle.journal_log.specs.Gates.{IsGated}
use Rattle.journal_log.specs.Images.{Stands, IsEither}

-- One of these crash images stands for some records and one more, whose gate is torn: neither 0 nor
-- 1. This image has the same bytes with any byte at that gate, which is being written, and stands
-- for the same records, with that one or without.
pub record IsNormalizing (images : List ℕ → Type 0) (image : List ℕ) : Type 0 where
  pub from : List ℕ
  pub was : images from
  pub format : ℕ
  pub epoch : ℕ
  pub bodies : List (List ℕ)
  pub body : List ℕ
  pub gate : ℕ
  pub torn : (gate ≢ 0) × (gate ≢ 1)
  pub gated : IsGated (encoded_head format epoch ++ opened bodies) gate (framed_of body) from
  pub stood : Stands format epoch (bodies ++ body ∷ []) from
  pub changed : (byte : ℕ) × (image
      ≡ (encoded_head format epoch ++ opened bodies) ++ (byte ∷ framed_of body ++ gated.0))
  pub stands : IsEither format epoch bodies body image

-- it is one of these images, or one whose last gate is being written
abbrev pub IsWhileOpened : (List ℕ → Type 0) → List ℕ → Type 0
IsWhileOpened images image = images image ⊎ IsNormalizing images image
