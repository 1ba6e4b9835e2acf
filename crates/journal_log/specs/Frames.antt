-- Gates and records, from a gate on.
use Rattle.std.specs.Prelude.{◌≡◌, ◌≢◌, ◌⊎◌, ◌+◌, ◌<◌, ◌^◌, ℕ, List, [], ◌∷◌, ◌++◌, length}
use Rattle.std.specs.Int.{to_be_bytes, w64}

-- a record up to its next gate: its length as eight bytes, the greatest first, and its body
unfoldable pub sized : List ℕ → List ℕ
sized body = to_be_bytes w64 (length body) ++ body

-- a record as it is written: its length, its body, and the next gate, closed
abbrev pub framed_of : List ℕ → List ℕ
framed_of body = sized body ++ 0 ∷ []

-- how many bytes a gate and its record have, up to the next gate
abbrev pub frame_len : List ℕ → ℕ
frame_len body = 9 + length body

-- these records, each after a gate 1
abbrev pub opened : List (List ℕ) → List ℕ
opened [] = []
opened (body ∷ others) = (1 ∷ sized body) ++ opened others

-- they begin with a gate 0, whatever follows
abbrev pub BeginsWithClosedGate : List ℕ → Type 0
BeginsWithClosedGate bytes = (rest : List ℕ) × (bytes ≡ 0 ∷ rest)

-- They begin with an open gate, and after it a whole record: its length, this body, the next gate.
-- Where the gate is another byte than 1, the next gate is 0. From the next gate on, the bytes have
-- Behind.
pub record IsFrame (body : List ℕ) (Behind : List ℕ → Type 0) (bytes : List ℕ) : Type 0 where
  pub gate : ℕ
  pub next : ℕ
  pub rest : List ℕ
  pub spells : bytes ≡ gate ∷ (sized body ++ (next ∷ rest))
  pub is_open : gate ≢ 0
  pub last : (gate ≡ 1) ⊎ (next ≡ 0)
  pub short : length body < 2 ^ 64
  pub behind : Behind (next ∷ rest)

-- the gate that they begin with has no whole frame: there is no gate, or its record isn't whole
abbrev pub IsBroken : List ℕ → Type 0
IsBroken bytes =
    (BeginsWithClosedGate bytes → ⊥) × ((body : List ℕ) → IsFrame body (λ _. Unit {0}) bytes → ⊥)

-- whole frames of these records, one after the other, and then bytes that have Last
abbrev pub FramesTo : (List ℕ → Type 0) → List (List ℕ) → List ℕ → Type 0
FramesTo Last [] bytes = Last bytes
FramesTo Last (body ∷ others) bytes = IsFrame body (FramesTo Last others) bytes
