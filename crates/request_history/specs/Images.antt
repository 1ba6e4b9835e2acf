-- What may follow a journal in an image.
use Rattle.std.specs.Prelude.{◌≡◌, ℕ, List, ◌∷◌, ◌++◌}
use Rattle.journal_log.specs.Frames.{framed_of}

-- a record with a gate 0, and any bytes
abbrev pub IsRecord : List ℕ → List ℕ → Type 0
IsRecord body bytes = (rest : List ℕ) × (bytes ≡ framed_of body ++ rest)

-- any gate, and a record
abbrev pub IsGatedRecord : List ℕ → List ℕ → Type 0
IsGatedRecord body bytes = (gate : ℕ) × (rest : List ℕ) × (bytes ≡ gate ∷ framed_of body ++ rest)
