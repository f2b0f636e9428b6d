-- Dates of the Gregorian calendar and times of day, in UTC.
use Rattle.std.specs.Prelude.{ℕ, ℤ, pos, ◌+◌, ◌-◌, ◌*◌, ◌/◌, ◌%◌, neg_ℤ, ◌+ℤ◌, ◌-ℤ◌, ◌*ℤ◌, ◌≤ℤ◌, int_lt, unsigned_abs, nat_lt, List, [], ◌++◌, codes, decimal, if◌then◌else◌}
use Rattle.std.specs.Int.{int_div_euclid, int_rem_euclid}
use Rattle.std.specs.List.{position_or_len, range_with_len}
use Rattle.seek_details.specs.Columns.{padded}

-- a number lies from -most to most
abbrev pub IsWithin : ℕ → ℤ → Type 0
IsWithin most z = (neg_ℤ (pos most) ≤ℤ z) × (z ≤ℤ pos most)

-- the days of this many years, which begin on 1 March, the first one in a year that 400 divides. A leap day is the last
-- day of its year: each fourth year has one, but of those that end a century only each fourth
abbrev pub march_days : ℕ → ℕ
march_days years = 365 * years + years / 4 - years / 100 + years / 400

-- the days of this many months from March on: months of 31 and 30 days, and February last
abbrev pub month_days : ℕ → ℕ
month_days months = (153 * months + 2) / 5

-- the part that a day is in, of parts whose first ones have this many days: the first part that ends after the day
unfoldable pub part_of : (ℕ → ℕ) → ℕ → ℕ → ℕ
part_of days count day = position_or_len (λ part. nat_lt day (days (part + 1))) (range_with_len 0 count)

-- the cycle of 400 years that a day since 1970 is in: cycle 0 begins on 1 March 2000
abbrev pub cycle_of : ℤ → ℤ
cycle_of day = int_div_euclid (day -ℤ pos 11017) (pos 146097)

-- the days of the cycle before a day
abbrev pub cycle_day : ℤ → ℕ
cycle_day day = unsigned_abs (int_rem_euclid (day -ℤ pos 11017) (pos 146097))

-- the years of the cycle before a day
abbrev pub cycle_year : ℤ → ℕ
cycle_year day = part_of march_days 400 (cycle_day day)

-- the days before a day, since 1 March
abbrev pub year_day : ℤ → ℕ
year_day day = cycle_day day - march_days (cycle_year day)

-- the months before a day, since 1 March
abbrev pub march_month : ℤ → ℕ
march_month day = part_of month_days 12 (year_day day)

-- the month of the calendar, from 1 for January, of a month that is counted from 0 for March
abbrev pub calendar_month : ℕ → ℕ
calendar_month month = if nat_lt month 10 then month + 3 else month - 9

-- 1 for January and February, which are in the next year of the calendar, and else 0
abbrev pub years_begun : ℕ → ℕ
years_begun month = if nat_lt month 10 then 0 else 1

-- the year that is this many years after the first of a cycle
abbrev pub year_after : ℤ → ℕ → ℤ
year_after cycle years = cycle *ℤ pos 400 +ℤ pos (2000 + years)

-- the year of a day
abbrev pub year_of : ℤ → ℤ
year_of day = year_after (cycle_of day) (cycle_year day + years_begun (march_month day))

-- the month of a day, from 1 for January
abbrev pub month_of : ℤ → ℕ
month_of day = calendar_month (march_month day)

-- the day of the month, from 1
abbrev pub day_of : ℤ → ℕ
day_of day = year_day day - month_days (march_month day) + 1

-- a number with at least two digits
abbrev pub two_digits : ℕ → List ℕ
two_digits n = padded 48 2 (decimal n)

-- a year with at least four digits, behind a minus if it is before the year 0
abbrev pub year_text : ℤ → List ℕ
year_text year = (if int_lt year (pos 0) then codes "-" else []) ++ padded 48 4 (decimal (unsigned_abs year))

-- a date
abbrev pub civil_text : ℤ → ℕ → ℕ → List ℕ
civil_text year month day = year_text year ++ codes "-" ++ two_digits month ++ codes "-" ++ two_digits day

-- the date of a day since 1970
unfoldable pub date_text : ℤ → List ℕ
date_text day = civil_text (year_of day) (month_of day) (day_of day)

-- the time of a second of the day
unfoldable pub clock_text : ℕ → List ℕ
clock_text second = two_digits (second / 3600) ++ codes ":" ++ two_digits (second / 60 % 60) ++ codes ":" ++ two_digits (second % 60)

-- the day since 1970 of a second since then
abbrev pub day_at : ℤ → ℤ
day_at second = int_div_euclid second (pos 86400)

-- the second of that day
abbrev pub clock_at : ℤ → ℕ
clock_at second = unsigned_abs (int_rem_euclid second (pos 86400))

-- a date and a time of day
abbrev pub date_and_clock : ℤ → ℕ → List ℕ
date_and_clock day second = date_text day ++ codes " " ++ clock_text second

-- the date and the time of a second since 1970
unfoldable pub time_text : ℤ → List ℕ
time_text second = date_and_clock (day_at second) (clock_at second)
