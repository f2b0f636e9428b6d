-- Dates and times of day, in UTC.
use Rattle.std.specs.Prelude.{ℕ, ℤ, pos, ◌≤◌, ◌+◌, ◌*◌, ◌+ℤ◌, ◌*ℤ◌, ◌==◌, Bool, ◌&&◌, nat_le, nat_lt, List, [], ◌∷◌, length, Option, None, Some, if◌then◌else◌}
use Rattle.std.specs.List.{after_first, before_first}
use Rattle.jiff_core.specs.Calendar.{days_from_civil, days_in_month}
use Rattle.seek_words.specs.Size.{digits_number}

-- the number of a text of digits, up to a greatest number of these
abbrev pub few_digits : ℕ → List ℕ → Option ℕ
few_digits most text = if nat_lt most (length text) then None else digits_number text

-- whether a byte is a dash
abbrev pub is_dash : ℕ → Bool
is_dash b = b == 45

-- whether a byte is a colon
abbrev pub is_colon : ℕ → Bool
is_colon b = b == 58

-- whether a byte is a space
abbrev pub is_space : ℕ → Bool
is_space b = b == 32

-- whether the calendar has a day
abbrev pub is_day : ℕ → ℕ → ℕ → Bool
is_day year month day = nat_le year 9_999 && (nat_le 1 month && (nat_le month 12 && (nat_le 1 day && nat_le day (days_in_month (pos year) month))))

-- The calendar has a day.
pub record HasDay (year month day : ℕ) : Type 0 where
  pub year_most : year ≤ 9_999
  pub month_least : 1 ≤ month
  pub month_most : month ≤ 12
  pub day_least : 1 ≤ day
  pub day_most : day ≤ days_in_month (pos year) month

-- the number of a day, if the calendar has it; 1 January 1970 is 0
abbrev pub day_of : Option ℕ → Option ℕ → Option ℕ → Option ℤ
day_of (Some year) (Some month) (Some day) = if is_day year month day then Some (days_from_civil (pos year) month day) else None
day_of _ _ _ = None

-- the number of the day of a text: a year, a month and a day with dashes between them
abbrev pub day_in : List ℕ → Option ℤ
day_in text =
    let rest = after_first is_dash text in
    day_of (few_digits 4 (before_first is_dash text)) (few_digits 2 (before_first is_dash rest)) (few_digits 2 (after_first is_dash rest))

-- the seconds of a time of day, if a clock has it; a minute may have 61 seconds
abbrev pub seconds_of : Option ℕ → Option ℕ → Option ℕ → Option ℕ
seconds_of (Some hour) (Some minute) (Some second) =
    if nat_lt hour 24 && (nat_lt minute 60 && nat_le second 60) then Some (hour * 3_600 + minute * 60 + second) else None
seconds_of _ _ _ = None

-- the seconds of the time of day of a text: an hour, a minute and a second with colons between them, or midnight
abbrev pub seconds_in : List ℕ → Option ℕ
seconds_in text =
    let rest = after_first is_colon text in
    if length text == 0 then Some 0
    else seconds_of (few_digits 2 (before_first is_colon text)) (few_digits 2 (before_first is_colon rest)) (few_digits 2 (after_first is_colon rest))

-- a time of a day in nanoseconds since the beginning of 1970
abbrev pub nanoseconds_of : Option ℤ → Option ℕ → Option ℤ
nanoseconds_of (Some day) (Some seconds) = Some ((day *ℤ pos 86_400 +ℤ pos seconds) *ℤ pos 1_000_000_000)
nanoseconds_of _ _ = None

-- the same of a text: a day, and a time of day behind a space or none
abbrev pub date_in : List ℕ → Option ℤ
date_in text = nanoseconds_of (day_in (before_first is_space text)) (seconds_in (after_first is_space text))
