-- Quality values, in thousandths (RFC 9110, section 12.4.2).
use Rattle.std.specs.Prelude.{ℕ, ◌+◌, ◌-◌, ◌*◌, Bool, ◌&&◌, ◌==◌, nat_le, if◌then◌else◌, List, []}
use Rattle.std.specs.Prelude.{◌∷◌, length, slice_index, Option, Some, None}
use Rattle.std.specs.Char.{is_ascii_digit}
use Rattle.std.specs.List.{list_all}
use Rattle.std.specs.Option.{option_and_then}

abbrev pub are_decimals : List ℕ → Bool
are_decimals digits = nat_le (length digits) 3 && list_all is_ascii_digit digits

-- the digit at a position, 0 where there is none
abbrev pub digit_at : List ℕ → ℕ → ℕ
digit_at digits at = slice_index digits at - 48

-- the thousandths of what follows the first digit: nothing, or a point and up to three digits
abbrev pub fraction : List ℕ → Option ℕ
fraction [] = Some 0
fraction (point ∷ digits) =
    if point == 46 && are_decimals digits
    then Some (100 * digit_at digits 0 + 10 * digit_at digits 1 + digit_at digits 2) else None

-- the quality with this first digit, where it is at most 1
abbrev pub up_to_one : ℕ → ℕ → Option ℕ
up_to_one whole thousandths =
    if whole == 48 && nat_le thousandths 1000 then Some thousandths
    else (if whole == 49 && thousandths == 0 then Some 1000 else None)

-- the quality that a text writes: 0 to 1 with up to three decimals
abbrev pub quality_value : List ℕ → Option ℕ
quality_value [] = None
quality_value (whole ∷ rest) = option_and_then (λ thousandths. up_to_one whole thousandths)
    (fraction rest)
