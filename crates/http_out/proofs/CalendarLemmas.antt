-- The seconds of a date give its text back.
use Rattle.std.proofs.Common.{◌≡◌, ℕ, zero, suc, ◌+◌, ◌-◌, ◌*◌, ◌/◌, ◌%◌, ◌<◌, ◌≤◌, ◌++◌, codes, min, sym, ap, ◌∙◌, arith}
use Rattle.std.proofs.lemmas.Bool.Decides.{nat_tests}
use Rattle.httpdate.specs.Calendar.{days_of_years, days_of_months, days_in_year, days_in_month, days_from_civil, weekday, IsCivilDate}
use Rattle.httpdate.specs.Date.{unix_secs, date_text as text_of}
use Rattle.httpdate.specs.Text.{two_digits}
use Rattle.httpdate.specs.declared.date.HttpDate.{HttpDate}
use Rattle.httpdate.proofs.CalendarLemmas.{days_of_months_more, days_of_months_all}
use Rattle.http_out.specs.Calendar.{greatest, years_before, months_before, year_of, day_of_year, month_of, day_of_month, civil_text, second_text, date_text, last_moment}

greatest_is : (f : ℕ → ℕ) (most last n : ℕ) → n ≤ last → f n ≤ most → ((m : ℕ) → n < m → most < f m)
    → greatest f most last ≡ n
unfolding greatest
greatest_is f most zero n within at above = omega (arith, within)
greatest_is f most (suc last) n within at above =
    grind (arith, nat_tests, greatest_is f most last n, above (suc last), within, at)

years_grow : (n k : ℕ) → days_of_years n ≤ days_of_years (n + k)
unfolding days_of_years
years_grow n zero = let same : n + 0 ≡ n = omega arith in rw same (omega arith)
years_grow n (suc k) =
    let before = years_grow n k in
    let next : n + suc k ≡ suc (n + k) = omega arith in
    rw next (omega (arith, before))

months_grow : (y m k : ℕ) → days_of_months y m ≤ days_of_months y (m + k)
unfolding days_of_months
months_grow y m zero = let same : m + 0 ≡ m = omega arith in rw same (omega arith)
months_grow y m (suc k) =
    let before = months_grow y m k in
    let next : m + suc k ≡ suc (m + k) = omega arith in
    rw next (omega (arith, before))

year_after : (n day m : ℕ) → day < days_of_years (suc n) → n < m → day < days_of_years m
year_after n day m before later =
    let grown = years_grow (suc n) (m - suc n) in
    let same : suc n + (m - suc n) ≡ m = omega (arith, later) in
    omega (arith, before, rw same at grown)

month_after : (y n day m : ℕ) → day < days_of_months y (suc n) → n < m → day < days_of_months y m
month_after y n day m before later =
    let grown = months_grow y (suc n) (m - suc n) in
    let same : suc n + (m - suc n) ≡ m = omega (arith, later) in
    omega (arith, before, rw same at grown)

-- a day of a month of a year, counted from its first, lies in the month, and in the year
in_month : (y m d : ℕ) → 1 ≤ m → 1 ≤ d → d ≤ days_in_month y m
    → days_of_months y (m - 1) + (d - 1) < days_of_months y (suc (m - 1))
in_month y m d one first last =
    let more = days_of_months_more y m one in
    let same : suc (m - 1) ≡ m = omega (arith, one) in
    rw same (omega (arith, more, first, last))

in_year : (y m d : ℕ) → 1 ≤ m → m ≤ 12 → 1 ≤ d → d ≤ days_in_month y m
    → days_of_months y (m - 1) + (d - 1) < days_in_year y
in_year y m d one twelve first last =
    let inside = in_month y m d one first last in
    let grown = months_grow y (suc (m - 1)) (12 - suc (m - 1)) in
    let same : suc (m - 1) + (12 - suc (m - 1)) ≡ 12 = omega (arith, one, twelve) in
    let all = days_of_months_all y in
    omega (arith, inside, rw same at grown, all)

years_of : (y m d : ℕ) → IsCivilDate y m d → years_before (days_from_civil y m d) ≡ y - 1970
unfolding days_of_years
years_of y m d h =
    let inside = in_year y m d h.1.0 h.1.1 h.2.0 h.2.1 in
    let back : 1970 + (y - 1970) ≡ y = omega (arith, h.0.0) in
    let next : days_from_civil y m d < days_of_years (suc (y - 1970)) = rw back (omega (arith, inside)) in
    greatest_is days_of_years (days_from_civil y m d) 8029 (y - 1970) (omega (arith, h.0.1)) (omega arith)
    (λ n later. year_after (y - 1970) (days_from_civil y m d) n next later)

months_of : (y m d : ℕ) → IsCivilDate y m d
    → months_before y (days_of_months y (m - 1) + (d - 1)) ≡ m - 1
unfolding days_of_months
months_of y m d h =
    let next = in_month y m d h.1.0 h.2.0 h.2.1 in
    greatest_is (days_of_months y) (days_of_months y (m - 1) + (d - 1)) 11 (m - 1) (omega (arith, h.1.1)) (omega arith)
    (λ n later. month_after y (m - 1) (days_of_months y (m - 1) + (d - 1)) n next later)

-- the day, month and year of a date are those of the days before it
record Civil (y m d : ℕ) : Type 0 where
  year : year_of (days_from_civil y m d) ≡ y
  month : month_of (days_from_civil y m d) ≡ m
  day : day_of_month (days_from_civil y m d) ≡ d

civil : (y m d : ℕ) → IsCivilDate y m d → Civil y m d
civil y m d h =
    let years = years_of y m d h in
    let year : year_of (days_from_civil y m d) ≡ y = omega (arith, years, h.0.0) in
    let rest : day_of_year (days_from_civil y m d) ≡ days_of_months y (m - 1) + (d - 1) = rw years (omega arith) in
    let months : months_before (year_of (days_from_civil y m d)) (day_of_year (days_from_civil y m d)) ≡ m - 1 =
    rw (year, rest) (months_of y m d h) in
    let month : month_of (days_from_civil y m d) ≡ m = omega (arith, months, h.1.0) in
    record { year = year; month = month; day = rw (month, year, rest) (omega (arith, h.2.0)) }

-- hour, minute and second of a second of a day
record Clock (second hour minute rest : ℕ) : Type 0 where
  hour_is : second / 3600 ≡ hour
  minute_is : second % 3600 / 60 ≡ minute
  rest_is : second % 60 ≡ rest

clock : (hour minute rest : ℕ) → hour < 24 → minute < 60 → rest < 60
    → Clock (hour * 3600 + minute * 60 + rest) hour minute rest
clock hour minute rest h m r = record {
  hour_is = omega (arith, h, m, r);
  minute_is = omega (arith, h, m, r);
  rest_is = omega (arith, h, m, r);
}

same_text : (d : HttpDate) → second_text (unix_secs d) ≡ text_of d
same_text d =
    let day : unix_secs d / 86400 ≡ days_from_civil d.parts.year d.parts.mon d.parts.day = omega (arith, d.time.0, d.time.1, d.time.2) in
    let second : unix_secs d % 86400 ≡ d.parts.hour * 3600 + d.parts.min * 60 + d.parts.sec = omega (arith, d.time.0, d.time.1, d.time.2) in
    let c = civil d.parts.year d.parts.mon d.parts.day d.civil in
    let t = clock d.parts.hour d.parts.min d.parts.sec d.time.0 d.time.1 d.time.2 in
    let wday = ap weekday day ∙ sym d.right_day in
    let year = ap year_of day ∙ c.year in
    let month = ap month_of day ∙ c.month in
    let number = ap day_of_month day ∙ c.day in
    let hour = ap (λ n. n / 3600) second ∙ t.hour_is in
    let minute = ap (λ n. n % 3600 / 60) second ∙ t.minute_is in
    let rest = ap (λ n. n % 60) second ∙ t.rest_is in
    λ i. civil_text (wday i) (year i) (month i) (number i) ++ codes " "
    ++ (two_digits (hour i) ++ codes ":" ++ two_digits (minute i) ++ codes ":" ++ two_digits (rest i))
    ++ codes " GMT"

-- The date of a moment's second is the text of the moment's date.
pub date_is : (d : HttpDate) (moment : ℕ) → unix_secs d ≡ min moment last_moment → text_of d ≡ date_text moment
unfolding date_text
date_is d moment same = rw (← same) (sym (same_text d))
