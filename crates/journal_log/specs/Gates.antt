-- What is at a gate and after it.
use Rattle.std.specs.Prelude.{◌≡◌, ℕ, List, ◌∷◌, ◌++◌, length}

-- a gate 0 follows these bytes
abbrev pub IsClosed : List ℕ → List ℕ → Type 0
IsClosed prefix image = (rest : List ℕ) × (image ≡ prefix ++ (0 ∷ rest))

-- this gate follows them, and then these bytes
abbrev pub IsGated : List ℕ → ℕ → List ℕ → List ℕ → Type 0
IsGated prefix gate behind image = (rest : List ℕ) × (image ≡ prefix ++ (gate ∷ behind ++ rest))

-- any gate follows them, and then these bytes
abbrev pub IsOpening : List ℕ → List ℕ → List ℕ → Type 0
IsOpening prefix behind image = (gate : ℕ) × IsGated prefix gate behind image

-- the first gate, after the sixteen bytes of any head, is 0
abbrev pub IsFirstGateClosed : List ℕ → Type 0
IsFirstGateClosed image = (head : List ℕ) × (length head ≡ 16) × IsClosed head image
