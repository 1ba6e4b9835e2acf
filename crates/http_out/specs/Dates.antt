-- The dates of moments.
use Rattle.std.specs.Prelude.{◌≡◌, ℕ, List, min}
use Rattle.httpdate.specs.declared.date.HttpDate.{HttpDate}
use Rattle.httpdate.specs.Date.{unix_secs, date_text}

-- The text is the date of a moment, as HTTP writes it (RFC 9110, section 5.6.7). No date can be
-- written after the year 9999, so a later moment has the date of its last second.
abbrev pub IsDateOf : ℕ → List ℕ → Type 0
IsDateOf seconds text = (date : HttpDate) × (unix_secs date ≡ min seconds 253_402_300_799)
    × (text ≡ date_text date)

-- a moment in seconds since 1970, and its date
pub record Dated : Type 0 where
  pub seconds : ℕ
  pub date : List ℕ

abbrev pub IsDated : Dated → Type 0
IsDated moment = IsDateOf moment.seconds moment.date
