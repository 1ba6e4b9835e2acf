-- The media ranges of an Accept field (RFC 9110, section 12.5.1).
use Rattle.std.specs.Prelude.{ℕ, if◌then◌else◌, List, Option, None, slice_get}
use Rattle.std.specs.List.{list_all, filter_map}
use Rattle.std.specs.Option.{option_and_then, option_map}
use Rattle.httparse.specs.Grammar.{trim_ows}
use Rattle.field_list.specs.Parts.{parts}
use Rattle.field_list.specs.Elements.{elements}
use Rattle.field_list.specs.declared.quoting.Quoting.TheVariants.{Strings}
use Rattle.content_nego.specs.MediaTypes.{Media, media_type}
use Rattle.content_nego.specs.Parameters.{parameters, is_parameter, quality}

-- a media range and its quality, in thousandths
pub record Range : Type 0 where
  pub media : Media
  pub quality : ℕ

abbrev pub range_of : Media → ℕ → Range
range_of media quality = record { media = media; quality = quality }

-- the media type before the parameters
abbrev pub element_type : List ℕ → Option Media
element_type element = option_and_then (λ part. media_type (trim_ows part))
    (slice_get (parts Strings 59 element) 0)

-- the range that an element is; none where it is malformed
abbrev pub media_range : List ℕ → Option Range
media_range element =
    if list_all is_parameter (parameters element)
    then option_and_then (λ media. option_map (range_of media) (quality (parameters element)))
    (element_type element)
    else None

-- the ranges of a field, without its malformed elements
abbrev pub ranges : List ℕ → List Range
ranges accept = filter_map media_range (elements Strings accept)
