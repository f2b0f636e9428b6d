-- The meaning of the words of a call.
use Rattle.std.specs.Prelude.{◌≡◌, false, List}
use Rattle.std.specs.List.{list_any}
use Rattle.clap.specs.Words.{App, Row, Text}
use Rattle.program_parts.specs.Matches as command
use Rattle.program_parts.specs.Refusal as refusal
use Rattle.seek_words.specs.Asks.{Asks, is_slash}
use Rattle.seek_words.specs.Command.{IsSeek}
use Rattle.seek_words.specs.Conflict.{has_conflict}
use Rattle.seek_words.specs.declared.asked.Asked.{Asked}

-- The words are those of the command line, and give options these values.
pub record GiveValues (words : List Text) (rows : List Row) : Type 0 where
  pub app : App
  pub is_seek : IsSeek app
  pub gives : command.GiveValues app words rows

-- The words ask for this. They are those of the command line, no two options exclude each other, the values of options
-- ask for this, and a pattern for names has no slash.
pub record AskFor (words : List Text) (asked : Asked) : Type 0 where
  pub rows : List Row
  pub values : GiveValues words rows
  pub free : has_conflict rows ≡ false
  pub asks : Asks rows asked
  pub slash : asked.full_path ≡ false → list_any is_slash asked.pattern.now ≡ false

-- The words ask for help or for the version.
abbrev pub AskForText : List Text → Type 0
AskForText words = (app : App) × IsSeek app × refusal.AskForText app words
