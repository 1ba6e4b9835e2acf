-- The links of a Link field's value (RFC 8288, section 3 and appendix B.2).
use Rattle.std.specs.Prelude.{ℕ, Bool, false, ◌==◌, if◌then◌else◌, List, [], ◌∷◌, map}
use Rattle.std.specs.List.{onto_first}
use Rattle.httparse.specs.Grammar.{is_ows, trim_ows}
use Rattle.request_fields.specs.declared.link_splitting.LinkPlace.{LinkPlace}
use Rattle.request_fields.specs.declared.link_splitting.LinkPlace.TheVariants.{Start, Reference}
use Rattle.request_fields.specs.declared.link_splitting.LinkPlace.TheVariants.{Parameters, Quoted}
use Rattle.request_fields.specs.declared.link_splitting.LinkPlace.TheVariants.{Escaped}

-- a quote outside of a reference opens a quoted string
abbrev pub place_outside : ℕ → LinkPlace
place_outside b = if b == 34 then Quoted else Parameters

-- `<` opens a reference where it is the first byte of a link, and nowhere else
abbrev pub place_at_start : ℕ → LinkPlace
place_at_start b =
    if is_ows b then Start else (if b == 60 then Reference else place_outside b)

-- a reference runs to the first `>`, whatever is before it
abbrev pub place_in_reference : ℕ → LinkPlace
place_in_reference b = if b == 62 then Parameters else Reference

-- a quote that no backslash escapes closes a quoted string
abbrev pub place_in_quotes : ℕ → LinkPlace
place_in_quotes b = if b == 34 then Parameters else (if b == 92 then Escaped else Quoted)

-- the place of what follows a byte
abbrev pub next_place : LinkPlace → ℕ → LinkPlace
next_place Start b = place_at_start b
next_place Reference b = place_in_reference b
next_place Parameters b = place_outside b
next_place Quoted b = place_in_quotes b
next_place Escaped b = Quoted

-- a comma in neither a reference nor quotes
abbrev pub separates : LinkPlace → ℕ → Bool
separates Start b = b == 44
separates Reference b = false
separates Parameters b = b == 44
separates Quoted b = false
separates Escaped b = false

-- the texts between those commas, of a text that begins at that place
abbrev pub link_parts_from : LinkPlace → List ℕ → List (List ℕ)
link_parts_from place [] = [] ∷ []
link_parts_from place (b ∷ text) =
    if separates place b then [] ∷ link_parts_from Start text
    else onto_first b (link_parts_from (next_place place b) text)

abbrev pub link_parts : List ℕ → List (List ℕ)
link_parts value = link_parts_from Start value

-- the links of a value, without the blanks around them; empty ones are no links
abbrev pub links : List ℕ → List (List ℕ)
links value = map trim_ows (link_parts value)
