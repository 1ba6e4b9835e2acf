-- The ranges of a Range field, and the parts of a body that they are (RFC 9110, section 14.1.2).
use Rattle.std.specs.Prelude.{ℕ, ◌-◌, ◌==◌, min, nat_lt, nat_le, if◌then◌else◌, List, length}
use Rattle.std.specs.Prelude.{Option, Some, None}
use Rattle.std.specs.Option.{option_map, option_and_then}
use Rattle.field_list.specs.Pairs.{Pair, split_pair}
use Rattle.field_list.specs.declared.quoting.Quoting.TheVariants.{Strings}
use Rattle.range_req.specs.Numbers as numbers
use Rattle.range_req.specs.declared.byte_range.ByteRange.{ByteRange}
use Rattle.range_req.specs.declared.byte_range.ByteRange.TheVariants.{Between, From, Last}
use Rattle.range_req.specs.declared.byte_range.Part.{Part}

abbrev pub number : List ℕ → Option ℕ
number text = numbers.number text

-- a-b, where a isn't the greater one
abbrev pub between : Option ℕ → Option ℕ → Option ByteRange
between None last = None
between (Some first) None = None
between (Some first) (Some last) = if nat_le first last then Some (Between first last) else None

-- a-
abbrev pub from : Option ℕ → Option ByteRange
from first = option_map (λ n. From n) first

-- -n
abbrev pub last_bytes : Option ℕ → Option ByteRange
last_bytes count = option_map (λ n. Last n) count

-- the range of what is before and after the dash
abbrev pub range_of_pair : Pair → Option ByteRange
range_of_pair p =
    if length p.first == 0 then last_bytes (number p.second)
    else (if length p.second == 0 then from (number p.first)
    else between (number p.first) (number p.second))

-- the range that an element is; none where it is malformed
abbrev pub byte_range : List ℕ → Option ByteRange
byte_range element = option_and_then range_of_pair (split_pair Strings 45 element)

-- the part from a position up to another, or to the end of the body, if that is after its beginning
abbrev pub part_up_to : ℕ → ℕ → ℕ → Option Part
part_up_to first last size =
    if nat_lt first size then Some (record { first = first; last = min last (size - 1) }) else None

-- the part of a body of that size; none where the range has no byte there
abbrev pub part_in : ℕ → ByteRange → Option Part
part_in size (Between first last) = part_up_to first last size
part_in size (From first) = part_up_to first (size - 1) size
part_in size (Last count) = if count == 0 then None else part_up_to (size - count) (size - 1) size
