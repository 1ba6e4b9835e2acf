-- The values of tokens: total functions of a token's text.
use Rattle.std.specs.Prelude.{ℕ, ◌+◌, ◌-◌, Bool, not, ◌&&◌, ◌==◌, if◌then◌else◌}
use Rattle.std.specs.Prelude.{List, ◌∷◌, length, take, drop}
use Rattle.std.specs.List.{before_first, after_first, filter}
use Rattle.std.specs.Str.{str_to_ascii_lowercase}
use Rattle.turtle_terms.specs.Escapes.{decoded}

-- all but so many bytes at the start and at the end
abbrev pub without_ends : ℕ → List ℕ → List ℕ
without_ends n text = take (length text - (n + n)) (drop n text)

-- how many quotes begin and end a String: three where its first three bytes are equal
abbrev pub quote_count : List ℕ → ℕ
quote_count (a ∷ b ∷ c ∷ rest) = if a == b && b == c then 3 else 1
quote_count text = 1

-- the lexical form of a String
abbrev pub string_value : List ℕ → List ℕ
string_value text = decoded (without_ends (quote_count text) text)

-- the reference of an IRIREF
abbrev pub reference_value : List ℕ → List ℕ
reference_value text = decoded (without_ends 1 text)

abbrev pub is_colon : ℕ → Bool
is_colon b = b == 58

abbrev pub is_backslash : ℕ → Bool
is_backslash b = b == 92

-- the prefix of a name: what precedes its first `:`
abbrev pub prefix_value : List ℕ → List ℕ
prefix_value text = before_first is_colon text

-- the local name: what follows the first `:`, without the backslashes of its escapes; `%41` stays
abbrev pub local_value : List ℕ → List ℕ
local_value text = filter (λ b. not (is_backslash b)) (after_first is_colon text)

-- the label of a BLANK_NODE_LABEL, after its `_:`
abbrev pub label_value : List ℕ → List ℕ
label_value text = drop 2 text

-- the tag of a LANGTAG, after its `@`, in lower case
abbrev pub language_value : List ℕ → List ℕ
language_value text = str_to_ascii_lowercase (drop 1 text)

-- the name of a variable, after its `?`
abbrev pub variable_value : List ℕ → List ℕ
variable_value text = drop 1 text
