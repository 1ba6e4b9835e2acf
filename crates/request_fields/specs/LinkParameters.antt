-- The parameters of a link (RFC 8288, sections 3 and 3.3).
use Rattle.std.specs.Prelude.{ℕ, Bool, false, ◌&&◌, ◌||◌, if◌then◌else◌, List, [], map, drop}
use Rattle.std.specs.Prelude.{slice_get, Option, Some, None, codes}
use Rattle.std.specs.List.{filter_map}
use Rattle.std.specs.Option.{option_map_or}
use Rattle.std.specs.Str.{str_eq_ignore_ascii_case}
use Rattle.httparse.specs.Grammar.{is_token, trim_ows}
use Rattle.field_list.specs.Parts.{parts}
use Rattle.field_list.specs.Pairs.{Pair, split_pair}
use Rattle.field_list.specs.QuotedString.{is_quoted_string}
use Rattle.field_list.specs.declared.quoting.Quoting.TheVariants.{Strings}

-- What follows the target of a link: the texts between semicolons. A target with a semicolon or a
-- quote is cut too, so this holds for the others.
abbrev pub parameters : List ℕ → List (List ℕ)
parameters link = map trim_ows (drop 1 (parts Strings 59 link))

-- what is before and after the `=` of a parameter
abbrev pub name_and_value : List ℕ → Option Pair
name_and_value text = split_pair Strings 61 text

abbrev pub is_parameter_value : List ℕ → Bool
is_parameter_value text = is_token text || is_quoted_string text

-- a name, `=` and a value, with blanks about the `=`
abbrev pub is_named_value : List ℕ → Bool
is_named_value text =
    option_map_or (λ p. is_token (trim_ows p.first) && is_parameter_value (trim_ows p.second))
    (name_and_value text) false

-- a parameter: a name alone, or a name and a value
abbrev pub is_parameter : List ℕ → Bool
is_parameter text = is_token text || is_named_value text

-- the value that a text gives to a name, which is compared in any case
abbrev pub value_of_pair : List ℕ → List ℕ → Option Pair → Option (List ℕ)
value_of_pair name text None = if str_eq_ignore_ascii_case text name then Some [] else None
value_of_pair name text (Some p) =
    if str_eq_ignore_ascii_case (trim_ows p.first) name then Some (trim_ows p.second) else None

-- the value of a parameter with that name; empty where the name stands alone
abbrev pub value_named : List ℕ → List ℕ → Option (List ℕ)
value_named name text = value_of_pair name text (name_and_value text)

-- the value of the first `rel`; later ones don't count
abbrev pub relation : List (List ℕ) → Option (List ℕ)
relation parameters = slice_get (filter_map (value_named (codes "rel")) parameters) 0
