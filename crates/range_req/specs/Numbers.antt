-- Positions in decimal digits.
use Rattle.std.specs.Prelude.{ℕ, ◌+◌, ◌-◌, ◌*◌, Bool, ◌&&◌, min, nat_lt, if◌then◌else◌, List, []}
use Rattle.std.specs.Prelude.{◌∷◌, length, Option, Some, None}
use Rattle.std.specs.List.{list_all}
use Rattle.std.specs.Char.{is_ascii_digit}
use Rattle.range_req.specs.declared.position_number.TheConstants.{NUMBER_LIMIT}

-- one digit or more, and nothing else
abbrev pub is_number : List ℕ → Bool
is_number text = nat_lt 0 (length text) && list_all is_ascii_digit text

-- the number that digits write after those of n
abbrev pub value_after : ℕ → List ℕ → ℕ
value_after n [] = n
value_after n (digit ∷ digits) = value_after (n * 10 + (digit - 48)) digits

abbrev pub value : List ℕ → ℕ
value digits = value_after 0 digits

-- a number over 10^18 counts as 10^18
abbrev pub limited : ℕ → ℕ
limited n = min n NUMBER_LIMIT

abbrev pub number : List ℕ → Option ℕ
number text = if is_number text then Some (limited (value text)) else None
