-- Times that a call names.
use Rattle.std.specs.Prelude.{ℕ, ℤ, pos, ◌*◌, ◌/◌, ◌%◌, ◌-ℤ◌, ◌+ℤ◌, ◌*ℤ◌, ◌==◌, List, [], ◌∷◌, option_and_then, Option, None, Some, Result, Ok, Err, if◌then◌else◌}
use Rattle.std.specs.Option.{option_map, option_or}
use Rattle.jiff.specs.Words.{Error, parse_datetime, parse_timestamp}
use Rattle.jiff_fmt.specs.Temporal.{DateParts, TimeParts, parts_nanos}
use Rattle.seek_words.specs.Date.{date_in}
use Rattle.seek_words.specs.Length.{length_in}
use Rattle.seek_words.specs.Size.{digits_number, in_64_bits}
use Rattle.seek_words.specs.declared.time.Time.{Time}
use Rattle.seek_words.specs.declared.time.Time.TheVariants.{Ago, At}

-- a length ago, if its seconds have at most 64 bits
abbrev pub ago_of : ℕ → Option Time
ago_of length = option_map (λ seconds. Ago seconds (length % 1_000_000_000)) (in_64_bits (length / 1_000_000_000))

-- the time of the lengths of a text ago
abbrev pub ago_in : List ℕ → Option Time
ago_in text = option_and_then ago_of (length_in text)

-- the time of an instant
abbrev pub instant_in : Result ℤ Error → Option Time
instant_in (Ok nanoseconds) = Some (At nanoseconds)
instant_in (Err e) = None

-- the time of a date and a time of day, in UTC
abbrev pub civil_in : Result (DateParts × TimeParts) Error → Option Time
civil_in (Ok (date, time)) = Some (At (parts_nanos date time))
civil_in (Err e) = None

-- the time of a date whose numbers need no zeros in front
abbrev pub short_in : List ℕ → Option Time
short_in text = option_map At (date_in text)

-- the time of the seconds after the beginning of 1970, which follow an `@`
abbrev pub second_in : List ℕ → Option Time
second_in [] = None
second_in (c ∷ cs) = if c == 64 then option_map (λ n. At (pos (n * 1_000_000_000))) (digits_number cs) else None

-- the time of a text: lengths ago, a date with an offset or in UTC, or seconds
abbrev pub time_in : List ℕ → Option Time
time_in text =
    option_or (option_or (option_or (option_or (ago_in text) (instant_in (parse_timestamp text))) (civil_in (parse_datetime text))) (short_in text)) (second_in text)

-- a time in nanoseconds since the beginning of 1970, by when the call began
abbrev pub nanoseconds_at : ℤ → Time → ℤ
nanoseconds_at now (Ago seconds nanoseconds) = now -ℤ (pos seconds *ℤ pos 1_000_000_000 +ℤ pos nanoseconds)
nanoseconds_at now (At nanoseconds) = nanoseconds
