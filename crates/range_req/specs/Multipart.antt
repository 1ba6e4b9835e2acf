-- The body of a response with several parts (RFC 9110, section 14.6; RFC 2046, section 5.1).
use Rattle.std.specs.Prelude.{◌≡◌, ℕ, zero, suc, ◌+◌, ◌<◌, Bool, false, not, ◌||◌, if◌then◌else◌}
use Rattle.std.specs.Prelude.{List, [], ◌∷◌, ◌++◌, length, take, slice_range, codes, decimal}
use Rattle.std.specs.Prelude.{bytes_eq}
use Rattle.std.specs.List.{flat_map, concat}
use Rattle.memchr.specs.Find.{OccursAt}
use Rattle.range_req.specs.declared.byte_range.Part.{Part}

-- the bytes stand somewhere in the body
abbrev pub Occurs : List ℕ → List ℕ → Type 0
Occurs body needle = (at : ℕ) × OccursAt body needle at

-- pod-0, pod-1, ..
abbrev pub boundary : ℕ → List ℕ
boundary number = codes "pod-" ++ decimal number

abbrev pub delimiter : List ℕ → List ℕ
delimiter boundary = codes "--" ++ boundary

-- the number is the first whose delimiter isn't in the body
pub record IsFirstFree (body : List ℕ) (number : ℕ) : Type 0 where
  pub free : Occurs body (delimiter (boundary number)) → ⊥
  pub first : (k : ℕ) → k < number → Occurs body (delimiter (boundary k))

-- some place of the body has the bytes from there on
abbrev pub occurs : List ℕ → List ℕ → Bool
occurs [] needle = false
occurs (b ∷ body) needle =
    bytes_eq (take (length needle) (b ∷ body)) needle || occurs body needle

-- The least number from k on that passes the test, of so many tries; the one after them where none
-- does.
abbrev pub least_from : (ℕ → Bool) → ℕ → ℕ → ℕ
least_from test k zero = k
least_from test k (suc tries) = if test k then k else least_from test (suc k) tries

-- The number of the first boundary whose delimiter isn't in the body. A body has fewer delimiters
-- than bytes, so it is at most their number.
unfoldable pub free_number : List ℕ → ℕ
free_number body = least_from (λ k. not (occurs body (delimiter (boundary k)))) 0 (length body)

unfoldable pub free_boundary : List ℕ → List ℕ
free_boundary body = boundary (free_number body)

-- the boundary has that number
abbrev pub IsFreeBoundary : List ℕ → List ℕ → Type 0
IsFreeBoundary body text = (number : ℕ) × IsFirstFree body number × (text ≡ boundary number)

-- the fields of a part, and the empty line after them
abbrev pub part_fields : List ℕ → Part → ℕ → List ℕ
part_fields ctype part size =
    concat (codes "\r\nContent-Type: " ∷ ctype
    ∷ codes "\r\nContent-Range: bytes " ∷ decimal part.first ∷ codes "-" ∷ decimal part.last
    ∷ codes "/" ∷ decimal size ∷ codes "\r\n\r\n" ∷ [])

-- a part: its delimiter, its fields, its bytes and the end of their line
abbrev pub part_text : List ℕ → List ℕ → List ℕ → Part → List ℕ
part_text boundary ctype body part =
    (delimiter boundary ++ part_fields ctype part (length body))
    ++ (slice_range body part.first (part.last + 1) ++ codes "\r\n")

-- the parts, and the last delimiter
abbrev pub multipart_text : List ℕ → List ℕ → List ℕ → List Part → List ℕ
multipart_text boundary ctype body parts =
    flat_map (part_text boundary ctype body) parts ++ (delimiter boundary ++ codes "--\r\n")
