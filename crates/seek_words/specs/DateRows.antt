-- Dates and times of day, row by row, as `fd --changed-within` reads them.
use Rattle.std.specs.Prelude.{◌≡◌, ℕ, ℤ, pos, Option, None, Some, codes, refl}
use Rattle.jiff_core.specs.Calendar.{days_from_civil}
use Rattle.seek_words.specs.Date.{date_in, nanoseconds_of}

-- the second of this day
abbrev at : ℕ → ℕ → ℕ → ℕ → Option ℤ
at year month day second = nanoseconds_of (Some (days_from_civil (pos year) month day)) (Some second)

one_digit : date_in (codes "2020-7-1") ≡ at 2020 7 1 0
one_digit = refl

with_zeros : date_in (codes "2020-07-01 01:02:03") ≡ at 2020 7 1 3_723
with_zeros = refl

one_digit_each : date_in (codes "2020-7-1 1:2:3") ≡ at 2020 7 1 3_723
one_digit_each = refl

leap_day : date_in (codes "2024-2-29") ≡ at 2024 2 29 0
leap_day = refl

leap_second : date_in (codes "2016-12-31 23:59:60") ≡ at 2016 12 31 86_400
leap_second = refl

no_leap_day : date_in (codes "2023-2-29") ≡ None
no_leap_day = refl

no_month : date_in (codes "2023-13-1") ≡ None
no_month = refl

no_hour : date_in (codes "2023-1-1 24:0:0") ≡ None
no_hour = refl

no_seconds : date_in (codes "2023-1-1 10:00") ≡ None
no_seconds = refl

long_year : date_in (codes "10000-1-1") ≡ None
long_year = refl

three_digits : date_in (codes "2023-1-001") ≡ None
three_digits = refl
