-- Days that the calendar has.
use Rattle.std.proofs.Common.{ℕ, Bool, true, false, ◌≤◌, arith}
use Rattle.std.specs.Prelude.{ℤ, pos, ◌==◌, ◌||◌, if◌then◌else◌}
use Rattle.jiff_core.specs.Calendar.{days_in_month, is_leap_year, IsDate}
use Rattle.jiff.proofs.SpanFacts.{signed_arith}
use Rattle.seek_words.specs.Date.{HasDay}

either_most : (b : Bool) (n m : ℕ) → n ≤ 31 → m ≤ 31 → (if b then n else m) ≤ 31
either_most true n m first second = first
either_most false n m first second = second

-- a month has at most 31 days
pub month_most : (year : ℤ) (month : ℕ) → days_in_month year month ≤ 31
month_most year month =
    either_most (month == 2) _ _ (either_most (is_leap_year year) 29 28 (omega arith) (omega arith))
    (either_most ((month == 4) || (month == 6) || (month == 9) || (month == 11)) 30 31 (omega arith) (omega arith))

-- so a day is one of these
pub day_most : (year month day : ℕ) → HasDay year month day → day ≤ 31
day_most year month day has = let most = month_most (pos year) month in omega (arith, most, has.day_most)

-- the date has these parts
pub is_date : (year month day : ℕ) → HasDay year month day → IsDate (pos year) (pos month) (pos day)
is_date year month day has =
    let year_most : year ≤ 9_999 = has.year_most in
    let month_least : 1 ≤ month = has.month_least in
    let month_most : month ≤ 12 = has.month_most in
    let day_least : 1 ≤ day = has.day_least in
    let day_most : day ≤ days_in_month (pos year) month = has.day_most in (
      (omega (arith, signed_arith), omega (arith, signed_arith)),
      (omega (arith, signed_arith), omega (arith, signed_arith)),
      (omega (arith, signed_arith), omega (arith, signed_arith)),
    )
