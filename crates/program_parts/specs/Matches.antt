-- The values that words give to the options of a command line.
use Rattle.std.specs.Prelude.{◌≡◌, List, []}
use Rattle.clap.specs.Words.{App, Kinds, Row, Text, fault_of, matches_of}

-- The words are those of a command line, and give its options these values.
pub record GiveValues (app : App) (words : List Text) (rows : List Row) : Type 0 where
  pub good : let faults : Kinds = fault_of app words in faults ≡ []
  pub values : rows ≡ matches_of app words
