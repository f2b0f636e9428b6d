-- The refusals of words.
use Rattle.std.specs.Prelude.{◌≡◌, ◌⊎◌, ℕ, true, false, codes, List, Option, None, Some}
use Rattle.std.specs.List.{list_any, Contains}
use Rattle.clap.specs.Words.{App, Row, Text, first_of, matches_of}
use Rattle.program_parts.specs.Refusal.{IsRefusedBy, status_of as status_of_common}
use Rattle.program_parts.specs.Values.{values_in}
use Rattle.program_parts.specs.declared.refusal.CommonRefusal.TheVariants.{Memory}
use Rattle.seek_words.specs.Asks.{Asks, is_slash}
use Rattle.seek_words.specs.Command.{IsSeek}
use Rattle.seek_words.specs.Color.{color_in}
use Rattle.seek_words.specs.Conflict.{has_conflict}
use Rattle.seek_words.specs.Size.{size_in}
use Rattle.seek_words.specs.Time.{time_in}
use Rattle.seek_words.specs.declared.asked.Asked.{Asked}
use Rattle.seek_words.specs.declared.refusal.Refusal.{Refusal}
use Rattle.seek_words.specs.declared.refusal.Refusal.TheVariants.{Common, NoSize, NoTime, NoColor, Slash}

-- the status of the program
abbrev pub status_of : Refusal → ℕ
status_of (Common refusal) = status_of_common refusal
status_of (NoSize text) = 2
status_of (NoTime text) = 2
status_of (NoColor text) = 2
status_of (Slash pattern) = 2

-- A pattern has a slash, and is compared with names.
pub record NamesSlash (asked : Asked) : Type 0 where
  pub by_name : asked.full_path ≡ false
  pub slash : list_any is_slash asked.pattern.now ≡ true

-- The refusal of sizes: one of their texts isn't a size, or memory ran out.
abbrev pub IsRefusedSize : List Text → Refusal → Type 0
IsRefusedSize texts (NoSize text) = Contains texts text.now × (size_in text.now ≡ None)
IsRefusedSize texts (Common refusal) = refusal ≡ Memory
IsRefusedSize texts _ = ⊥

-- The refusal of a time: the text that is named isn't a time.
abbrev pub IsRefusedTime : Option Text → Refusal → Type 0
IsRefusedTime named (NoTime text) = (named ≡ Some text.now) × (time_in text.now ≡ None)
IsRefusedTime named _ = ⊥

-- The refusal of when to print colors: the text that is named doesn't say it.
abbrev pub IsRefusedColor : Option Text → Refusal → Type 0
IsRefusedColor named (NoColor text) = (named ≡ Some text.now) × (color_in text.now ≡ None)
IsRefusedColor named _ = ⊥

-- The refusal of a value: of a size, of a time, or of when to print colors.
abbrev pub IsRefusedValue : List Row → Refusal → Type 0
IsRefusedValue rows refusal =
    IsRefusedSize (values_in rows (codes "size")) refusal
    ⊎ (IsRefusedTime (first_of (codes "changed-within") rows) refusal
    ⊎ (IsRefusedTime (first_of (codes "changed-before") rows) refusal ⊎ IsRefusedColor (first_of (codes "color") rows) refusal))

-- The refusal of words: they aren't those of the command line, or ask for help or the version; options exclude each
-- other; a value is bad; the pattern has a slash and is compared with names; or memory ran out.
abbrev pub IsRefusedFor : List Text → Refusal → Type 0
IsRefusedFor words (Common refusal) = (refusal ≡ Memory) ⊎ ((app : App) × IsSeek app × IsRefusedBy app has_conflict words refusal)
IsRefusedFor words (NoSize text) = (app : App) × IsSeek app × IsRefusedValue (matches_of app words) (NoSize text)
IsRefusedFor words (NoTime text) = (app : App) × IsSeek app × IsRefusedValue (matches_of app words) (NoTime text)
IsRefusedFor words (NoColor text) = (app : App) × IsSeek app × IsRefusedValue (matches_of app words) (NoColor text)
IsRefusedFor words (Slash pattern) = (app : App) × IsSeek app × (asked : Asked) × Asks (matches_of app words) asked × NamesSlash asked

-- Words are bad: they are refused, and not as memory ran out.
abbrev pub AreBad : List Text → Type 0
AreBad words = (refusal : Refusal) × IsRefusedFor words refusal × (status_of refusal ≡ 2)
