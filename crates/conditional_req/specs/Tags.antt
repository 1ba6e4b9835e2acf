-- The entity tag of a representation.
use Rattle.std.specs.Prelude.{ℕ, List, [], ◌∷◌, ◌++◌, take}
use Rattle.hex.specs.Hex.{encode_lower}
use Rattle.sha2.specs.Sha256.{sha256}

-- what is digested: the content type, a zero byte and the body
abbrev pub tagged_bytes : List ℕ → List ℕ → List ℕ
tagged_bytes ctype body = (ctype ++ 0 ∷ []) ++ body

-- The first 16 bytes of the digest as 32 lower-case hexadecimal digits, a dash and the mark.
abbrev pub tag_text : List ℕ → List ℕ → ℕ → List ℕ
tag_text ctype body mark =
    encode_lower (take 16 (sha256 (tagged_bytes ctype body))) ++ 45 ∷ mark ∷ []
