-- Media types, and how specific a range is for one (RFC 9110, sections 8.3.1 and 12.5.1).
use Rattle.std.specs.Prelude.{ℕ, Bool, ◌&&◌, if◌then◌else◌, List, Option, Some, None, codes}
use Rattle.std.specs.Prelude.{bytes_eq}
use Rattle.std.specs.Option.{option_and_then}
use Rattle.std.specs.Str.{str_eq_ignore_ascii_case}
use Rattle.httparse.specs.Grammar.{is_token}
use Rattle.field_list.specs.Pairs.{Pair, split_pair}
use Rattle.field_list.specs.declared.quoting.Quoting.TheVariants.{Strings}

-- a type and a subtype
pub record Media : Type 0 where
  pub kind : List ℕ
  pub subtype : List ℕ

abbrev pub media_of : List ℕ → List ℕ → Media
media_of kind subtype = record { kind = kind; subtype = subtype }

-- the media type of two texts: both are tokens
abbrev pub media_of_pair : Pair → Option Media
media_of_pair p = if is_token p.first && is_token p.second then Some (media_of p.first p.second)
    else None

-- the media type that a text is: two tokens around a slash
abbrev pub media_type : List ℕ → Option Media
media_type text = option_and_then media_of_pair (split_pair Strings 47 text)

abbrev pub is_wildcard : List ℕ → Bool
is_wildcard name = bytes_eq name (codes "*")

-- How specific a range is for a media type: 3 where it is the type, 2 where it has its type and any
-- subtype, 1 where it is `*/*`, and 0 where it isn't a range of it. Case doesn't matter.
abbrev pub specificity_for : Media → Media → ℕ
specificity_for offer range =
    if str_eq_ignore_ascii_case range.kind offer.kind
    && str_eq_ignore_ascii_case range.subtype offer.subtype then 3
    else (if str_eq_ignore_ascii_case range.kind offer.kind && is_wildcard range.subtype then 2
    else (if is_wildcard range.kind && is_wildcard range.subtype then 1 else 0))

-- An offer that is no media type has no range.
abbrev pub specificity : Option Media → Media → ℕ
specificity None range = 0
specificity (Some offer) range = specificity_for offer range
