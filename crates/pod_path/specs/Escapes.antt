-- Escapes of a path: % and two hexadecimal digits.
use Rattle.std.specs.Prelude.{ℕ, ◌+◌, ◌-◌, ◌*◌, Bool, ◌&&◌, ◌||◌, ◌==◌, nat_le, if◌then◌else◌}
use Rattle.std.specs.Prelude.{List, [], ◌∷◌, ◌++◌, Option, Some, None}
use Rattle.pod_path.specs.Characters.{percent, is_unreserved}
use Rattle.iri_ref.specs.Characters.{is_between}

abbrev pub is_hex : ℕ → Bool
is_hex c = is_between 48 c 57 || (is_between 65 c 70 || is_between 97 c 102)

abbrev pub hex_digit_value : ℕ → ℕ
hex_digit_value c = if nat_le 97 c then c - 87 else (if nat_le 65 c then c - 55 else c - 48)

-- the digit, in upper case
abbrev pub upper : ℕ → ℕ
upper c = if nat_le 97 c then c - 32 else c

-- The character where it needs no escape, else the escape with upper-case digits.
abbrev pub normal_escape : ℕ → ℕ → List ℕ
normal_escape high low =
    let byte = 16 * hex_digit_value high + hex_digit_value low in
    if is_unreserved byte then byte ∷ [] else percent ∷ upper high ∷ upper low ∷ []

-- The text after this prefix, where there is one.
abbrev pub prepend : List ℕ → Option (List ℕ) → Option (List ℕ)
prepend prefix None = None
prepend prefix (Some text) = Some (prefix ++ text)

-- The text with each escape in its normal form; none where a % has no two digits after it.
abbrev pub normalize_escapes : List ℕ → Option (List ℕ)
normalize_escapes [] = Some []
normalize_escapes (c ∷ []) = if c == percent then None else Some (c ∷ [])
normalize_escapes (c ∷ d ∷ []) = if c == percent then None
    else prepend (c ∷ []) (normalize_escapes (d ∷ []))
normalize_escapes (c ∷ high ∷ low ∷ rest) =
    if c == percent
    then (if is_hex high && is_hex low then prepend (normal_escape high low)
    (normalize_escapes rest) else None)
    else prepend (c ∷ []) (normalize_escapes (high ∷ low ∷ rest))
