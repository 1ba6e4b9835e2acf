-- How far a text has a word, byte by byte.
use Rattle.std.specs.Prelude.{ℕ, Bool, true, false, ◌||◌, if◌then◌else◌, List, [], ◌∷◌, Option}
use Rattle.std.specs.Prelude.{Some, None}
use Rattle.std.specs.Char.{eq_ignore_ascii_case}
use Rattle.httparse.specs.Grammar.{is_ows}

-- what is left of a word after one more byte; none where the bytes differ
abbrev pub left_after : Option (List ℕ) → ℕ → Option (List ℕ)
left_after None b = None
left_after (Some []) b = None
left_after (Some (c ∷ left)) b = if eq_ignore_ascii_case b c then Some left else None

abbrev pub is_complete : Option (List ℕ) → Bool
is_complete None = false
is_complete (Some []) = true
is_complete (Some (c ∷ left)) = false

-- the text completes what is left of the word, or has the word after a blank
abbrev pub completes : List ℕ → Option (List ℕ) → List ℕ → Bool
completes word left [] = is_complete left
completes word left (b ∷ text) =
    if is_ows b then is_complete left || completes word (Some word) text
    else completes word (left_after left b) text
