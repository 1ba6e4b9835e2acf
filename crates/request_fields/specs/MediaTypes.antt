-- The media types of bodies (RFC 9110, section 8.3.1).
use Rattle.std.specs.Prelude.{ℕ, Bool, ◌==◌, if◌then◌else◌, List, codes}
use Rattle.std.specs.List.{before_first}
use Rattle.std.specs.Str.{str_eq_ignore_ascii_case}
use Rattle.httparse.specs.Grammar.{trim_ows}
use Rattle.request_fields.specs.declared.media_types.MediaType.{MediaType}
use Rattle.request_fields.specs.declared.media_types.MediaType.TheVariants.{Turtle, JsonLd, N3}
use Rattle.request_fields.specs.declared.media_types.MediaType.TheVariants.{SparqlUpdate, Other}

-- the media type that a name without parameters is, in any case
abbrev pub type_named : List ℕ → MediaType
type_named name =
    if str_eq_ignore_ascii_case name (codes "text/turtle") then Turtle
    else (if str_eq_ignore_ascii_case name (codes "application/ld+json") then JsonLd
    else (if str_eq_ignore_ascii_case name (codes "text/n3") then N3
    else (if str_eq_ignore_ascii_case name (codes "application/sparql-update") then SparqlUpdate
    else Other)))

abbrev pub is_semicolon : ℕ → Bool
is_semicolon b = b == 59

-- the media type of a value: what is before its first semicolon, without the blanks around it
abbrev pub media_type : List ℕ → MediaType
media_type value = type_named (trim_ows (before_first is_semicolon value))
