-- Frames, in which records are sent one after the other.
use Rattle.std.specs.Prelude.{◌≡◌, ℕ, List, ◌++◌, length}
use Rattle.std.specs.List.{flat_map}
use Rattle.stored_forms.specs.StoredForms.{number_bytes}

-- the length of a body, a number of eight bytes with the greatest first, and the body
abbrev pub frame_of : List ℕ → List ℕ
frame_of body = number_bytes (length body) ++ body

-- the frames of these bodies, one after the other
abbrev pub frames_of : List (List ℕ) → List ℕ
frames_of bodies = flat_map frame_of bodies

-- the bytes don't begin with a whole frame
abbrev pub HasNoFrame : List ℕ → Type 0
HasNoFrame bytes = (body rest : List ℕ) → bytes ≡ frame_of body ++ rest → ⊥
