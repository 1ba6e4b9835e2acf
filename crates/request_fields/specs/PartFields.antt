-- Slug, Range and If-Range (RFC 5023, section 9.7; RFC 9110, sections 13.1.5 and 14.2).
use Rattle.std.specs.Prelude.{ℕ, Bool, true, false, ◌==◌, if◌then◌else◌, List, [], ◌∷◌, ◌++◌, find}
use Rattle.std.specs.Prelude.{count_by, Option, codes, bytes_eq}
use Rattle.std.specs.Option.{option_map, option_map_or}
use Rattle.pod_base.specs.Fields.{is_named}
use Rattle.pod_base.specs.declared.field.Field.{Field}
use Rattle.field_list.specs.Places.{quote}
use Rattle.field_list.specs.Values.{only_value}

-- the value of the first Slug field
abbrev pub slug : List Field → Option (List ℕ)
slug fields = option_map (λ f. f.value) (find (is_named (codes "slug")) fields)

-- the value of the only Range field
abbrev pub range : List Field → Option (List ℕ)
range fields = only_value (codes "range") fields

-- a strong tag as a field writes it
abbrev pub quoted : List ℕ → List ℕ
quoted tag = quote ∷ (tag ++ quote ∷ [])

-- If-Range lets ranges count: there is none, or one alone, which is the tag in quotes.
abbrev pub allows_ranges : List ℕ → List Field → Bool
allows_ranges tag fields =
    if count_by (is_named (codes "if-range")) fields == 0 then true
    else option_map_or (λ value. bytes_eq value (quoted tag))
    (only_value (codes "if-range") fields) false

-- internal: the text is the tag in quotes
abbrev pub is_quoted : List ℕ → List ℕ → Bool
is_quoted tag text = bytes_eq text (quoted tag)

-- internal: the text is the tag and a quote
abbrev pub is_tag_and_quote : List ℕ → List ℕ → Bool
is_tag_and_quote tag text = bytes_eq text (tag ++ quote ∷ [])
