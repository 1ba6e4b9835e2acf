-- The stem of a slug.
use Rattle.std.specs.Prelude.{ℕ, ◌-◌, not, ◌==◌, nat_le, if◌then◌else◌, List, [], ◌∷◌, ◌++◌, length}
use Rattle.std.specs.Prelude.{filter, Option, Some, None, codes}
use Rattle.percent_encoding.specs.Percent.{percent_decode, percent_encode_byte}
use Rattle.iri_ref.specs.Characters.{is_slash}
use Rattle.pod_path.specs.Characters.{is_unreserved}
use Rattle.pod_path.specs.Norm.{is_auxiliary_name}
use Rattle.slug_naming.specs.declared.stems.TheConstants.{STEM_LIMIT}

abbrev pub without_slashes : List ℕ → List ℕ
without_slashes bytes = filter (λ b. not (is_slash b)) bytes

-- the bytes from the first that is no dot
abbrev pub without_dots : List ℕ → List ℕ
without_dots [] = []
without_dots (b ∷ bytes) = if b == 46 then without_dots bytes else b ∷ bytes

-- a byte as a character of a path, or its escape
abbrev pub escaped : ℕ → List ℕ
escaped b = if is_unreserved b then b ∷ [] else percent_encode_byte b

abbrev pub escaped_length : ℕ → ℕ
escaped_length b = if is_unreserved b then 1 else 3

-- the bytes escaped, as many of them from the first on as have room
abbrev pub fitting : ℕ → List ℕ → List ℕ
fitting room [] = []
fitting room (b ∷ bytes) =
    if nat_le (escaped_length b) room then escaped b ++ fitting (room - escaped_length b) bytes
    else []

-- the text as a stem: `item` where it is empty, with `_` where it ends as an auxiliary's name
abbrev pub finished : List ℕ → List ℕ
finished text = if length text == 0 then codes "item"
    else (if is_auxiliary_name text then text ++ codes "_" else text)

abbrev pub fitted : Option (List ℕ) → List ℕ
fitted None = []
fitted (Some slug) = fitting STEM_LIMIT (without_dots (without_slashes (percent_decode slug)))

-- the stem of a slug, or without one
abbrev pub stem_of : Option (List ℕ) → List ℕ
stem_of slug = finished (fitted slug)
