-- Which bytes of a text are in quotes (RFC 9110, sections 5.6.4 and 8.8.3).
use Rattle.std.specs.Prelude.{ℕ, Bool, true, false, ◌&&◌, ◌==◌, if◌then◌else◌, List, [], ◌∷◌}
use Rattle.std.specs.List.{onto_first}
use Rattle.field_list.specs.declared.quoting.Quoting.{Quoting}
use Rattle.field_list.specs.declared.quoting.Quoting.TheVariants.{Strings, Tags}
use Rattle.field_list.specs.declared.quoting.Place.{Place}
use Rattle.field_list.specs.declared.quoting.Place.TheVariants.{Outside, Inside, Escaped}

abbrev pub quote : ℕ
quote = 34

abbrev pub backslash : ℕ
backslash = 92

-- Does a backslash in quotes escape the byte after it? It does in a quoted string, and not in an
-- entity tag.
abbrev pub has_escapes : Quoting → Bool
has_escapes Strings = true
has_escapes Tags = false

-- The place of what follows a byte: a quote outside of quotes opens a quoted string, and a quote in
-- it that isn't escaped closes it.
abbrev pub next_place : Quoting → Place → ℕ → Place
next_place quoting Outside b = if b == quote then Inside else Outside
next_place quoting Inside b =
    if b == quote then Outside
    else (if b == backslash && has_escapes quoting then Escaped else Inside)
next_place quoting Escaped b = Inside

-- a separator outside of quotes
abbrev pub separates : ℕ → Place → ℕ → Bool
separates separator Outside b = b == separator
separates separator Inside b = false
separates separator Escaped b = false

-- the parts of a text that begins at that place
abbrev pub parts_from : Quoting → ℕ → Place → List ℕ → List (List ℕ)
parts_from quoting separator place [] = [] ∷ []
parts_from quoting separator place (b ∷ text) =
    if separates separator place b then [] ∷ parts_from quoting separator Outside text
    else onto_first b (parts_from quoting separator (next_place quoting place b) text)
