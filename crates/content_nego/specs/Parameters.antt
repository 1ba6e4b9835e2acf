-- The parameters of an element of an Accept field (RFC 9110, sections 5.6.6 and 12.4.2).
use Rattle.std.specs.Prelude.{ℕ, Bool, false, ◌&&◌, ◌||◌, ◌==◌, if◌then◌else◌, List, length, map}
use Rattle.std.specs.Prelude.{drop, slice_get, Option, Some, None, codes}
use Rattle.std.specs.List.{filter_map}
use Rattle.std.specs.Option.{option_and_then, option_map_or}
use Rattle.std.specs.Str.{str_eq_ignore_ascii_case}
use Rattle.httparse.specs.Grammar.{is_token, trim_ows}
use Rattle.field_list.specs.Parts.{parts}
use Rattle.field_list.specs.Pairs.{Pair, split_pair}
use Rattle.field_list.specs.QuotedString.{is_quoted_string}
use Rattle.field_list.specs.declared.quoting.Quoting.TheVariants.{Strings}
use Rattle.content_nego.specs.Qualities.{quality_value}

-- what follows the media type of an element: the texts between semicolons
abbrev pub parameters : List ℕ → List (List ℕ)
parameters element = map trim_ows (drop 1 (parts Strings 59 element))

-- the name and the value of a parameter
abbrev pub name_and_value : List ℕ → Option Pair
name_and_value text = split_pair Strings 61 text

-- a name, which is a token, and a value, which is a token or a quoted string; empty ones are
-- skipped
abbrev pub is_parameter : List ℕ → Bool
is_parameter text = length text == 0
    || option_map_or (λ p. is_token p.first && (is_token p.second || is_quoted_string p.second))
    (name_and_value text) false

-- the value of a parameter `q`
abbrev pub weight_value : List ℕ → Option (List ℕ)
weight_value text =
    option_and_then (λ p. if str_eq_ignore_ascii_case p.first (codes "q") then Some p.second
    else None) (name_and_value text)

-- the value of the first parameter `q`
abbrev pub weight : List (List ℕ) → Option (List ℕ)
weight parameters = slice_get (filter_map weight_value parameters) 0

abbrev pub quality_of_weight : Option (List ℕ) → Option ℕ
quality_of_weight None = Some 1000
quality_of_weight (Some value) = quality_value value

-- the quality, 1 where there is no `q`; none where the first `q` is malformed
abbrev pub quality : List (List ℕ) → Option ℕ
quality parameters = quality_of_weight (weight parameters)
