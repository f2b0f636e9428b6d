-- What the words of a call ask for.
use Rattle.std.specs.Prelude.{◌≡◌, false, List}
use Rattle.clap.specs.Words.{Row, Text}
use Rattle.program_parts.specs.Matches.{GiveValues}
use Rattle.program_parts.specs.Refusal as refusal
use Rattle.tally_words.specs.Asks.{Asks}
use Rattle.tally_words.specs.Command.{tally_app}
use Rattle.tally_words.specs.Conflict.{has_conflict}
use Rattle.tally_words.specs.declared.asked.Asked.{Asked}

-- The words ask for this: they are those of the command line, no two options exclude each other, and what is asked for is what the values say.
pub record AskFor (words : List Text) (asked : Asked) : Type 0 where
  pub rows : List Row
  pub values : GiveValues tally_app words rows
  pub free : has_conflict rows ≡ false
  pub asks : Asks rows asked

-- The words ask for help or for the version.
abbrev pub AskForText : List Text → Type 0
AskForText = refusal.AskForText tally_app
