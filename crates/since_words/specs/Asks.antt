-- What the words of a call ask for.
use Rattle.std.specs.Prelude.{◌≡◌, ℕ, false, List, [], codes, option_map, unwrap_or}
use Rattle.std.specs.Borrow.{Bor}
use Rattle.clap.specs.Words.{Row, Text, first_of, one_of}
use Rattle.program_parts.specs.Matches.{GiveValues}
use Rattle.program_parts.specs.Refusal as refusal
use Rattle.program_parts.specs.Values.{is_named, texts_of, values_in, IsNumberOf}
use Rattle.since_words.specs.Command.{since_app}
use Rattle.since_words.specs.Refusal.{has_conflict}
use Rattle.since_words.specs.declared.asked.Asked.{Asked}

abbrev pub text_in : Bor (List ℕ) → List ℕ
text_in t = t.now

-- the word for the file
abbrev pub file_in : List Row → List ℕ
file_in rows = unwrap_or (first_of (codes "file") rows) []

-- What is asked for by the values that options were given.
pub record Asks (rows : List Row) (asked : Asked) : Type 0 where
  pub file : asked.file.now ≡ file_in rows
  pub root : option_map text_in asked.root ≡ first_of (codes "root") rows
  pub save : asked.save ≡ is_named rows (codes "save")
  pub quick : asked.quick ≡ is_named rows (codes "quick")
  pub lists : asked.lists ≡ is_named rows (codes "rows")
  pub long : asked.long ≡ is_named rows (codes "long")
  pub print0 : asked.print0 ≡ is_named rows (codes "print0")
  pub json : asked.json ≡ is_named rows (codes "json")
  pub quiet : asked.quiet ≡ is_named rows (codes "quiet")
  pub exclude_hidden : asked.exclude_hidden ≡ is_named rows (codes "exclude-hidden")
  pub one_file_system : asked.one_file_system ≡ is_named rows (codes "one-file-system")
  pub depth : IsNumberOf (one_of (codes "max-depth") rows) asked.depth
  pub excludes : texts_of asked.excludes.items ≡ values_in rows (codes "exclude")
  pub ignore : asked.ignore ≡ is_named rows (codes "ignore")
  pub threads : IsNumberOf (one_of (codes "threads") rows) asked.threads

-- The words ask for this: they are those of the command line, no two options exclude each other, and what is asked for is what the values say.
pub record AskFor (words : List Text) (asked : Asked) : Type 0 where
  pub rows : List Row
  pub values : GiveValues since_app words rows
  pub free : has_conflict rows ≡ false
  pub asks : Asks rows asked

-- The words ask for help or for the version.
abbrev pub AskForText : List Text → Type 0
AskForText = refusal.AskForText since_app
