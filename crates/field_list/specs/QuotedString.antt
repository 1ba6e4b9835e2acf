-- Quoted strings (RFC 9110, section 5.6.4).
use Rattle.std.specs.Prelude.{ℕ, Bool, true, false, not, ◌&&◌, ◌==◌, if◌then◌else◌, List, [], ◌∷◌}
use Rattle.httparse.specs.Grammar.{is_value_byte}
use Rattle.field_list.specs.Places.{quote, backslash, next_place}
use Rattle.field_list.specs.declared.quoting.Quoting.TheVariants.{Strings}
use Rattle.field_list.specs.declared.quoting.Place.{Place}
use Rattle.field_list.specs.declared.quoting.Place.TheVariants.{Outside, Inside, Escaped}
use Rattle.field_list.specs.declared.quoted_string.QuotedBytes.{QuotedBytes}

abbrev pub is_outside : Place → Bool
is_outside Outside = true
is_outside Inside = false
is_outside Escaped = false

-- A byte may follow in quotes: a tab, a space, a visible character or a byte past ASCII. Those are
-- the bytes of text, and what a backslash may escape.
abbrev pub continues : Place → ℕ → Bool
continues place b = not (is_outside place) && is_value_byte b

-- the text is the rest of a quoted string, from that place on: it ends where the quotes close
abbrev pub is_rest : Place → List ℕ → Bool
is_rest place [] = is_outside place
is_rest place (b ∷ text) = continues place b && is_rest (next_place Strings place b) text

abbrev pub is_quoted_string : List ℕ → Bool
is_quoted_string [] = false
is_quoted_string (b ∷ text) = b == quote && is_rest Inside text

-- A byte is part of what a quoted string means: in quotes all but the quote that closes it and a
-- backslash that escapes.
abbrev pub is_meant : Place → ℕ → Bool
is_meant Outside b = false
is_meant Inside b = not (b == quote) && not (b == backslash)
is_meant Escaped b = true

-- what the rest of a quoted string means, from that place on
abbrev pub meaning_from : Place → List ℕ → List ℕ
meaning_from place [] = []
meaning_from place (b ∷ text) =
    if is_meant place b then b ∷ meaning_from (next_place Strings place b) text
    else meaning_from (next_place Strings place b) text

-- what a quoted string means: its text without the quotes and without the backslashes that escape
abbrev pub meaning : List ℕ → List ℕ
meaning [] = []
meaning (b ∷ text) = meaning_from Inside text

-- the bytes that are still to come
abbrev pub meaning_rest : QuotedBytes → List ℕ
meaning_rest q = meaning_from q.place q.rest.now
