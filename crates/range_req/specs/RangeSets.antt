-- What the value of a Range field asks for (RFC 9110, section 14.2).
use Rattle.std.specs.Prelude.{ℕ, Bool, true, false, ◌&&◌, ◌||◌, ◌==◌, reverse, ◌++◌, nat_lt, nat_le}
use Rattle.std.specs.Prelude.{if◌then◌else◌, List, [], ◌∷◌, length, take, drop, Option, is_some}
use Rattle.std.specs.Prelude.{codes}
use Rattle.std.specs.List.{list_all, filter_map}
use Rattle.std.specs.Option.{option_and_then, option_to_list}
use Rattle.std.specs.Str.{str_eq_ignore_ascii_case}
use Rattle.httparse.specs.Grammar.{skip_ows}
use Rattle.field_list.specs.Elements.{comma, elements}
use Rattle.field_list.specs.declared.quoting.Quoting.TheVariants.{Strings}
use Rattle.range_req.specs.ByteRanges.{byte_range, part_in}
use Rattle.range_req.specs.declared.byte_range.Part.{Part}
use Rattle.range_req.specs.declared.range_set.RangeSet.{RangeSet}
use Rattle.range_req.specs.declared.range_set.RangeSet.TheVariants.{Whole, Unsatisfiable, Parts}
use Rattle.range_req.specs.declared.range_set.TheConstants.{RANGE_LIMIT}

-- the whole body, nothing that it has, or parts of it
pub data Asked : Type 0 where
  whole unsatisfiable : Asked
  parts : List Part → Asked

-- what a set asks for
abbrev pub set_view : RangeSet → Asked
set_view Whole = whole
set_view Unsatisfiable = unsatisfiable
set_view (Parts list) = parts list.items

-- the unit of bytes, in any case
abbrev pub has_unit : List ℕ → Bool
has_unit value = str_eq_ignore_ascii_case (take 6 value) (codes "bytes=")

abbrev pub after_unit : List ℕ → List ℕ
after_unit value = drop 6 value

abbrev pub is_range : List ℕ → Bool
is_range element = is_some (byte_range element)

-- there is an element, and there aren't too many
abbrev pub is_within_limit : List (List ℕ) → Bool
is_within_limit elements = nat_lt 0 (length elements) && nat_le (length elements) RANGE_LIMIT

abbrev pub begins_with_comma : List ℕ → Bool
begins_with_comma [] = false
begins_with_comma (b ∷ text) = b == comma

-- A list begins with a blank only before a comma (RFC 9110, section 5.6.1).
abbrev pub begins_tight : List ℕ → Bool
begins_tight list = length (skip_ows list) == length list || begins_with_comma (skip_ows list)

-- a list of ranges: blanks stand about commas alone
abbrev pub is_range_list : List ℕ → Bool
is_range_list list = begins_tight list && (begins_tight (reverse list)
    && (list_all is_range (elements Strings list) && is_within_limit (elements Strings list)))

-- The value is well-formed: the unit, and a list of ranges.
abbrev pub is_well_formed : List ℕ → Bool
is_well_formed value = has_unit value && is_range_list (after_unit value)

-- the part that an element is
abbrev pub element_part : ℕ → List ℕ → Option Part
element_part size element = option_and_then (part_in size) (byte_range element)

-- the parts that the ranges are, in their order, without those that have no byte in the body
abbrev pub parts_in : ℕ → List (List ℕ) → List Part
parts_in size elements = filter_map (element_part size) elements

-- the part is inside of a body of that size
abbrev pub is_within : ℕ → Part → Bool
is_within size part = nat_le part.first part.last && nat_lt part.last size

-- each part of a set is inside of a body of that size
abbrev pub are_within : ℕ → Asked → Bool
are_within size whole = true
are_within size unsatisfiable = true
are_within size (parts list) = list_all (is_within size) list

abbrev pub asked_of : List Part → Asked
asked_of [] = unsatisfiable
asked_of (part ∷ rest) = parts (part ∷ rest)

-- what the value asks for, of a body of that size
abbrev pub range_set : List ℕ → ℕ → Asked
range_set value size =
    if is_well_formed value then asked_of (parts_in size (elements Strings (after_unit value)))
    else whole

-- internal: these parts and that of one more element
abbrev pub with_element : ℕ → List Part → List ℕ → List Part
with_element size found element = found ++ option_to_list (element_part size element)
