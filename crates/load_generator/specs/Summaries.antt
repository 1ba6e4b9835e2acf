-- The line that a run of the load generator prints.
use Rattle.std.specs.Prelude.{ℕ, List, [], ◌∷◌, length, codes, decimal}
use Rattle.std.specs.List.{concat}
use Rattle.hex.specs.Hex.{encode_lower}
use Rattle.sha2.specs.Sha256.{sha256}

-- How many requests there were, how many bytes they had, how many bytes were written, how many rows
-- the pod has at the end, and the SHA-256 of what was written, in lower-case hexadecimal digits.
unfoldable pub summary_line : ℕ → ℕ → List ℕ → ℕ → List ℕ
summary_line requests bytes_in written rows =
    concat (codes "requests=" ∷ decimal requests ∷ codes " in=" ∷ decimal bytes_in
    ∷ codes " out=" ∷ decimal (length written) ∷ codes " rows=" ∷ decimal rows
    ∷ codes " sha256=" ∷ encode_lower (sha256 written) ∷ codes "\n" ∷ [])
