-- The lines of a token table, what they say, and which of them is faulty.
use Rattle.std.specs.Prelude.{◌≡◌, ℕ, ◌+◌, Bool, true, false, not, ◌&&◌, ◌||◌, ◌==◌, nat_le, nat_lt}
use Rattle.std.specs.Prelude.{if◌then◌else◌, bytes_eq, codes, List, [], ◌∷◌, ◌++◌, length, find}
use Rattle.std.specs.Prelude.{Option, Some, None, is_some}
use Rattle.std.specs.List.{list_all, list_any, before_first, after_first, filter_map}
use Rattle.std.specs.Option.{option_map}
use Rattle.std.specs.Str.{is_utf8}
use Rattle.iri_ref.specs.Characters.{is_between, is_colon, is_scheme, is_allowed}
use Rattle.token_table.specs.declared.fault.TokenFault.{TokenFault}
use Rattle.token_table.specs.declared.fault.TokenFault.TheVariants.{Line, NoMemory}
use Rattle.token_table.specs.declared.table.TheConstants.{TABLE_LIMIT}
use Rattle.token_table.specs.declared.table_line.TheConstants.{TOKEN_LIMIT}
use Rattle.token_table.specs.declared.table_line.TokenEntry.{TokenEntry}

abbrev pub is_line_feed : ℕ → Bool
is_line_feed c = c == 10

-- the lines with one more byte before them
abbrev pub before_lines : ℕ → List (List ℕ) → List (List ℕ)
before_lines b [] = (b ∷ []) ∷ []
before_lines b (line ∷ lines) = (b ∷ line) ∷ lines

-- the lines of a text, each ended by LF; that of the last one may be missing
abbrev pub lines_of : List ℕ → List (List ℕ)
lines_of [] = []
lines_of (b ∷ text) = if is_line_feed b then [] ∷ lines_of text else before_lines b (lines_of text)

-- an empty line, or one that begins with #
abbrev pub is_skipped : List ℕ → Bool
is_skipped [] = true
is_skipped (b ∷ line) = b == 35

abbrev pub is_space : ℕ → Bool
is_space c = c == 32

abbrev pub is_token_character : ℕ → Bool
is_token_character c =
    is_between 97 c 122 || (is_between 65 c 90
    || (is_between 48 c 57 || list_any (λ d. c == d) (codes "-._~+/=")))

abbrev pub is_token : List ℕ → Bool
is_token text =
    nat_lt 0 (length text)
    && (nat_le (length text) TOKEN_LIMIT && list_all is_token_character text)

-- an absolute IRI: UTF-8, a scheme before its first colon, and no forbidden character
abbrev pub is_agent : List ℕ → Bool
is_agent text =
    is_utf8 text
    && (list_any is_colon text
    && (is_scheme (before_first is_colon text) && list_all is_allowed text))

-- what is before the first space of a line, and what follows it
abbrev pub token_part : List ℕ → List ℕ
token_part line = before_first is_space line

abbrev pub agent_part : List ℕ → List ℕ
agent_part line = after_first is_space line

-- the entry of a line: a token, one space and an absolute IRI
abbrev pub line_entry : List ℕ → Option TokenEntry
line_entry line =
    if is_token (token_part line) && is_agent (agent_part line)
    then Some (record { token = token_part line; agent = agent_part line }) else None

abbrev pub entries : List (List ℕ) → List TokenEntry
entries lines = filter_map line_entry lines

abbrev pub has_token : List TokenEntry → List ℕ → Bool
has_token table token = list_any (λ e. bytes_eq e.token token) table

-- the agent of a token
abbrev pub agent_in : List TokenEntry → List ℕ → Option (List ℕ)
agent_in table token = option_map (λ e. e.agent) (find (λ e. bytes_eq e.token token) table)

-- it isn't skipped, and has no entry
abbrev pub is_malformed : List ℕ → Bool
is_malformed line = not (is_skipped line || is_some (line_entry line))

-- its token is in the table
abbrev pub is_repeated : List TokenEntry → Option TokenEntry → Bool
is_repeated table None = false
is_repeated table (Some entry) = has_token table entry.token

abbrev pub repeats : List TokenEntry → List ℕ → Bool
repeats table line = is_repeated table (line_entry line)

-- how many bytes these lines are, each with its LF
abbrev pub size_of : List (List ℕ) → ℕ
size_of [] = 0
size_of (line ∷ lines) = length line + 1 + size_of lines

-- the last byte of a line after these ones is past the limit
abbrev pub ends_past : List (List ℕ) → List ℕ → Bool
ends_past before line = nat_lt TABLE_LIMIT (size_of before + length line)

-- a line after these ones is malformed, repeats a token, or ends past the limit
abbrev pub is_faulty : List (List ℕ) → List ℕ → Bool
is_faulty before line =
    is_malformed line || (repeats (entries before) line || ends_past before line)

-- no line is faulty
abbrev pub AreSound : List (List ℕ) → Type 0
AreSound lines = (before : List (List ℕ)) (line : List ℕ) (after : List (List ℕ))
    → lines ≡ before ++ line ∷ after → is_faulty before line ≡ false

-- the line with this number, from 1, is the first that is faulty
pub record IsFirstFault (lines : List (List ℕ)) (number : ℕ) : Type 0 where
  pub before : List (List ℕ)
  pub line : List ℕ
  pub after : List (List ℕ)
  pub whole : lines ≡ before ++ line ∷ after
  pub faulty : is_faulty before line ≡ true
  pub sound : AreSound before
  pub number_is : number ≡ length before + 1

-- Why there is no table: the first faulty line, or memory ran out.
abbrev pub FailsAs : List (List ℕ) → TokenFault → Type 0
FailsAs lines (Line number) = IsFirstFault lines number
FailsAs lines NoMemory = Unit {0}
