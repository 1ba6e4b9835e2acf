-- How the body after a head is framed (RFC 9112, section 6.3).
use Rattle.std.specs.Prelude.{ℕ, Bool, ◌&&◌, ◌||◌, ◌==◌, not, if◌then◌else◌, nat_lt, List, [], ◌∷◌}
use Rattle.std.specs.Prelude.{map, Result, Ok, Err, codes}
use Rattle.std.specs.List.{list_all, join_with_byte}
use Rattle.std.specs.Str.{str_eq_ignore_ascii_case}
use Rattle.pod_base.specs.declared.field.Field.{Field}
use Rattle.http_head.specs.Decimals.{is_number, number_of}
use Rattle.http_head.specs.Fields.{fields_named, has_field}
use Rattle.http_head.specs.declared.content_length.TheConstants.{BODY_LIMIT}
use Rattle.http_head.specs.declared.body_form.BodyForm.{BodyForm}
use Rattle.http_head.specs.declared.body_form.BodyForm.TheVariants.{Empty, Length, Chunked}
use Rattle.http_head.specs.declared.body_framing.FramingFault.{FramingFault}
use Rattle.http_head.specs.declared.body_framing.FramingFault.TheVariants.{Conflict, TooLarge}
use Rattle.http_head.specs.declared.body_framing.FramingFault.TheVariants.{Coding}

abbrev pub lengths : List Field → List Field
lengths fields = fields_named (codes "content-length") fields

abbrev pub codings : List Field → List Field
codings fields = fields_named (codes "transfer-encoding") fields

abbrev pub has_length : List Field → Bool
has_length fields = has_field (codes "content-length") fields

abbrev pub has_coding : List Field → Bool
has_coding fields = has_field (codes "transfer-encoding") fields

-- the number that a field's digits write
abbrev pub number : Field → ℕ
number field = number_of field.value

-- the number of the first field, 0 where there is none
abbrev pub first_length : List Field → ℕ
first_length [] = 0
first_length (field ∷ fields) = number field

-- whether some field's number is another than that of the first
abbrev pub lengths_differ : List Field → Bool
lengths_differ fields = not (list_all (λ field. number field == first_length fields) fields)

-- the values, joined by commas, are `chunked` in some case
abbrev pub is_chunked : List Field → Bool
is_chunked fields = str_eq_ignore_ascii_case (join_with_byte 44 (map
    (λ f. f.value) fields)) (codes "chunked")

-- the fields contradict each other or the version, or a length is no number
abbrev pub conflicts : ℕ → List Field → Bool
conflicts minor fields =
    (has_length fields && has_coding fields) || (has_coding fields && minor == 0)
    || not (list_all (λ f. is_number f.value) (lengths fields)) || lengths_differ (lengths fields)

-- the form of a body that no coding frames
abbrev pub length_form : List Field → Result BodyForm FramingFault
length_form fields =
    if nat_lt BODY_LIMIT (first_length (lengths fields)) then Err TooLarge else (
    if has_length fields then Ok (Length (first_length (lengths fields))) else Ok Empty)

-- a row of a table: where its condition holds, its answer
abbrev pub Row : Type 0
Row = Bool × Result BodyForm FramingFault

-- the answer of the first row whose condition holds
abbrev pub first_row : List Row → Result BodyForm FramingFault → Result BodyForm FramingFault
first_row [] last = last
first_row (row ∷ rows) last = if row.0 then row.1 else first_row rows last

-- The table, over the minor version and the fields of a head.
abbrev pub framing : ℕ → List Field → Result BodyForm FramingFault
framing minor fields = first_row (
    -- both fields at once
    (has_length fields && has_coding fields, Err Conflict) ∷
    -- a coding in a version that has none
    (has_coding fields && minor == 0, Err Conflict) ∷
    -- a length that is no number
    (not (list_all (λ f. is_number f.value) (lengths fields)), Err Conflict) ∷
    -- two lengths
    (lengths_differ (lengths fields), Err Conflict) ∷
    -- another coding than chunked
    (has_coding fields && not (is_chunked (codings fields)), Err Coding) ∷
    -- more bytes than a body may have
    (nat_lt BODY_LIMIT (first_length (lengths fields)), Err TooLarge) ∷
    (has_coding fields, Ok Chunked) ∷
    (has_length fields, Ok (Length (first_length (lengths fields)))) ∷ [])
    (Ok Empty)
