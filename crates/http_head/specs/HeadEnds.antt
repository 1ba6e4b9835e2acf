-- The end of a request's head (RFC 9112, sections 2.1 and 2.2).
use Rattle.std.specs.Prelude.{ℕ, ◌+◌, ◌<◌, ◌≤◌, ◌&&◌, ◌==◌, if◌then◌else◌, nat_le, nat_lt}
use Rattle.std.specs.Prelude.{List, [], ◌∷◌, length, take, drop, Option, Some, None}
use Rattle.std.specs.Option.{option_map}
use Rattle.http_head.specs.declared.head_ends.TheConstants.{HEAD_LIMIT}
use Rattle.http_head.specs.declared.head_ends.HeadEnd.{HeadEnd}
use Rattle.http_head.specs.declared.head_ends.HeadEnd.TheVariants.{Whole, NotYet, TooLong}

-- the length of the line end at the start of the bytes: LF, or CR LF; 0 where there is none
abbrev pub line_end_length : List ℕ → ℕ
line_end_length [] = 0
line_end_length (b ∷ []) = if b == 10 then 1 else 0
line_end_length (b ∷ c ∷ bytes) = if b == 10 then 1 else (if b == 13 && c == 10 then 2 else 0)

-- the length of the empty lines at the start of the bytes
abbrev pub blank_length : List ℕ → ℕ
blank_length [] = 0
blank_length (b ∷ []) = if b == 10 then 1 else 0
blank_length (b ∷ c ∷ bytes) =
    if b == 10 then blank_length (c ∷ bytes) + 1
    else (if b == 13 && c == 10 then blank_length bytes + 2 else 0)

-- the length of the line end after an LF at the start of the bytes; 0 where there is no such LF
abbrev pub line_end_after_lf : List ℕ → ℕ
line_end_after_lf [] = 0
line_end_after_lf (b ∷ bytes) = if b == 10 then line_end_length bytes else 0

-- the length of the bytes up to the first LF that a line end follows, with that line end
abbrev pub head_length : List ℕ → Option ℕ
head_length [] = None
head_length (b ∷ bytes) =
    if nat_lt 0 (line_end_after_lf (b ∷ bytes)) then Some (line_end_after_lf (b ∷ bytes) + 1)
    else option_map (λ n. n + 1) (head_length bytes)

-- the length of a head, with the empty lines before it, where its end is in the window
abbrev pub length_in : List ℕ → Option ℕ
length_in window =
    option_map (λ n. n + blank_length window) (head_length (drop (blank_length window) window))

abbrev pub end_of : ℕ → Option ℕ → HeadEnd
end_of len (Some n) = Whole n
end_of len None = if nat_le HEAD_LIMIT len then TooLong else NotYet

-- Where the head at the start of the text ends. With the empty lines before it, it has at most
-- HEAD_LIMIT bytes.
abbrev pub head_end : List ℕ → HeadEnd
head_end text = end_of (length text) (length_in (take HEAD_LIMIT text))

-- a complete head isn't empty, and no longer than the text
abbrev pub WholeWithin : HeadEnd → ℕ → Type 0
WholeWithin (Whole n) len = (0 < n) × (n ≤ len)
WholeWithin NotYet len = Unit {0}
WholeWithin TooLong len = Unit {0}
