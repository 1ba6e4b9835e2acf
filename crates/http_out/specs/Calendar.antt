-- The date of a moment: the day of the Gregorian calendar and the time of day in UTC, without leap
-- seconds, as the preferred form of HTTP dates has it (RFC 9110, section 5.6.7).
use Rattle.std.specs.Prelude.{ℕ, zero, suc, ◌+◌, ◌-◌, ◌/◌, ◌%◌, nat_le, min, if◌then◌else◌, List}
use Rattle.std.specs.Prelude.{◌++◌, codes}
use Rattle.httpdate.specs.Calendar.{days_of_years, days_of_months, weekday}
use Rattle.httpdate.specs.Text.{day_name, month_name, two_digits, four_digits}

-- The last second of the year 9999.
abbrev pub last_moment : ℕ
last_moment = 253_402_300_799

-- The greatest number up to the last one whose count is at most that; 0 where none is.
unfoldable pub greatest : (ℕ → ℕ) → ℕ → ℕ → ℕ
greatest count most zero = 0
greatest count most (suc last) =
    if nat_le (count (suc last)) most then suc last else greatest count most last

-- How many whole years have passed since 1970 on a day, which is counted from 1 January 1970.
abbrev pub years_before : ℕ → ℕ
years_before day = greatest days_of_years day 8029

-- How many whole months of the year have passed on a day of it, which is counted from 1 January.
abbrev pub months_before : ℕ → ℕ → ℕ
months_before year day = greatest (days_of_months year) day 11

abbrev pub year_of : ℕ → ℕ
year_of day = 1970 + years_before day

abbrev pub day_of_year : ℕ → ℕ
day_of_year day = day - days_of_years (years_before day)

abbrev pub month_of : ℕ → ℕ
month_of day = months_before (year_of day) (day_of_year day) + 1

abbrev pub day_of_month : ℕ → ℕ
day_of_month day = day_of_year day - days_of_months (year_of day) (month_of day - 1) + 1

-- `Sun, 06 Nov 1994`, of a day of the calendar that has that day of the week.
abbrev pub civil_text : ℕ → ℕ → ℕ → ℕ → List ℕ
civil_text wday year month day = day_name wday ++ codes ", " ++ two_digits day ++ codes " "
    ++ month_name month ++ codes " " ++ four_digits year

-- `08:49:37`, of a second of the day.
abbrev pub clock_text : ℕ → List ℕ
clock_text second = two_digits (second / 3600) ++ codes ":" ++ two_digits (second % 3600 / 60)
    ++ codes ":" ++ two_digits (second % 60)

-- The date of a second since the beginning of 1970, up to the last one.
abbrev pub second_text : ℕ → List ℕ
second_text second =
    civil_text (weekday (second / 86400)) (year_of (second / 86400)) (month_of (second / 86400))
    (day_of_month (second / 86400)) ++ codes " " ++ clock_text (second % 86400) ++ codes " GMT"

unfoldable pub date_text : ℕ → List ℕ
date_text moment = second_text (min moment last_moment)
