-- The type of a request's body (RFC 9110, section 8.3).
use Rattle.std.specs.Prelude.{ℕ, Bool, ◌&&◌, ◌==◌, nat_lt, nat_le, if◌then◌else◌, List, length}
use Rattle.std.specs.Prelude.{count_by, Option, Some, None, codes}
use Rattle.std.specs.List.{list_all}
use Rattle.std.specs.Option.{option_and_then}
use Rattle.httparse.specs.Grammar.{trim_ows}
use Rattle.pod_base.specs.Fields.{is_named}
use Rattle.pod_base.specs.declared.field.Field.{Field}
use Rattle.field_list.specs.Values.{only_value}
use Rattle.request_fields.specs.MediaTypes.{media_type}
use Rattle.request_fields.specs.declared.content_types.BodyType.{BodyType}
use Rattle.request_fields.specs.declared.content_types.BodyType.TheVariants.{Missing, Malformed, Given}
use Rattle.request_fields.specs.declared.content_types.TheConstants.{CONTENT_TYPE_LIMIT}

-- a byte from space to `~`
abbrev pub is_printable : ℕ → Bool
is_printable b = nat_le 32 b && nat_le b 126

-- a content type: 1 to 256 printable bytes
abbrev pub is_content_type : List ℕ → Bool
is_content_type text =
    nat_lt 0 (length text)
    && (nat_le (length text) CONTENT_TYPE_LIMIT && list_all is_printable text)

-- a text without the blanks around it, where it is a content type
abbrev pub type_text : List ℕ → Option (List ℕ)
type_text value = if is_content_type (trim_ows value) then Some (trim_ows value) else None

-- the content type of a request: that of its only Content-Type field
abbrev pub content_type : List Field → Option (List ℕ)
content_type fields = option_and_then type_text (only_value (codes "content-type") fields)

abbrev pub type_of : Option (List ℕ) → BodyType
type_of None = Malformed
type_of (Some value) = Given (media_type value)

-- The type of its body: missing where there is no Content-Type field, malformed where there are
-- several or the one is no content type, and else its media type.
abbrev pub body_type : List Field → BodyType
body_type fields =
    if count_by (is_named (codes "content-type")) fields == 0 then Missing
    else type_of (content_type fields)
