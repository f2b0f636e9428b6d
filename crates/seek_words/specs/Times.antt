-- The times at which the entries that are looked for were modified.
use Rattle.std.specs.Prelude.{ℤ, pos, ◌+ℤ◌, ◌*ℤ◌, int_lt, Bool, true, not, ◌&&◌, is_some, Option, None, Some}
use Rattle.jwalk_model.specs.declared.metadata.Details.{Details}
use Rattle.jwalk_model.specs.declared.metadata.Metadata.{Metadata}
use Rattle.jwalk_model.specs.declared.metadata.Moment.{Moment}
use Rattle.seek_words.specs.Seen.{details_seen}
use Rattle.seek_words.specs.declared.times.Times.{Times}

-- a moment in nanoseconds since the beginning of 1970
abbrev pub nanoseconds_of : Moment → ℤ
nanoseconds_of moment = moment.seconds *ℤ pos 1_000_000_000 +ℤ pos moment.nanoseconds

-- whether a time is later than another, if that is named
abbrev pub is_after : Option ℤ → ℤ → Bool
is_after None time = true
is_after (Some limit) time = int_lt limit time

-- whether a time is before another, if that is named
abbrev pub is_before : Option ℤ → ℤ → Bool
is_before None time = true
is_before (Some limit) time = int_lt time limit

-- whether entries that were modified then are looked for
abbrev pub is_modified : Times → Moment → Bool
is_modified times modified =
    let time = nanoseconds_of modified in is_after times.after time && (is_after times.after_file time && is_before times.before time)

-- whether no time is named
abbrev pub names_no_time : Times → Bool
names_no_time times = not (is_some times.after) && (not (is_some times.after_file) && not (is_some times.before))

abbrev is_timed_by : Times → Option Details → Bool
is_timed_by times None = names_no_time times
is_timed_by times (Some details) = is_modified times details.modified

-- whether an entry with this metadata is looked for; if it isn't known, whether no time is named
abbrev pub is_timed : Times → Option Metadata → Bool
is_timed times seen = is_timed_by times (details_seen seen)
