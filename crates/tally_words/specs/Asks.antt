-- What words ask for, by the values that options were given.
use Rattle.std.specs.Prelude.{◌≡◌, ℕ, List, codes, Option, Some, None, if◌then◌else◌}
use Rattle.std.specs.Option.{option_map}
use Rattle.clap.specs.Words.{Row, Text, first_of, one_of}
use Rattle.program_parts.specs.Values.{is_named, values_in, texts_of, IsNumberOf}
use Rattle.tally_words.specs.declared.asked.Asked.{Asked}
use Rattle.tally_words.specs.declared.form.Form.{Form}
use Rattle.tally_words.specs.declared.form.Form.TheVariants.{Table, Lines, ZeroLines, Json}
use Rattle.tally_words.specs.Threshold.{threshold_in}
use Rattle.tally_words.specs.declared.threshold.Threshold.{Threshold}
use Rattle.tally_words.specs.declared.unit.Unit.{Unit}
use Rattle.tally_words.specs.declared.unit.Unit.TheVariants.{Binary, Decimal, Kibibyte, Mebibyte, Byte}

-- The greatest depth that is named: 0 where the totals alone are asked for.
abbrev pub IsDepthIn : List Row → Option ℕ → Type 0
IsDepthIn rows depth =
    (named : Option ℕ) × IsNumberOf (one_of (codes "max-depth") rows) named × (depth ≡ (if is_named rows (codes "summarize") then Some 0 else named))

-- how results are written
abbrev pub form_in : List Row → Form
form_in rows =
    if is_named rows (codes "json") then Json else if is_named rows (codes "print0") then ZeroLines else if is_named rows (codes "plain") then Lines else Table

-- the unit of sizes
abbrev pub unit_in : List Row → Option Unit
unit_in rows =
    if is_named rows (codes "human-readable") then Some Binary else if is_named rows (codes "si") then Some Decimal
    else if is_named rows (codes "kibibytes") then Some Kibibyte else if is_named rows (codes "mebibytes") then Some Mebibyte
    else if is_named rows (codes "bytes") then Some Byte else None

-- Which sizes are written, by the text that is named.
abbrev pub IsThresholdIn : Option Text → Option Threshold → Type 0
IsThresholdIn named threshold = option_map Some threshold ≡ option_map threshold_in named

-- What is asked for by the values that options were given.
pub record Asks (rows : List Row) (asked : Asked) : Type 0 where
  pub roots : texts_of asked.roots.items ≡ values_in rows (codes "root")
  pub form : asked.form ≡ form_in rows
  pub depth : IsDepthIn rows asked.depth
  pub all : asked.all ≡ is_named rows (codes "all")
  pub largest : IsNumberOf (one_of (codes "largest") rows) asked.largest
  pub total : asked.total ≡ is_named rows (codes "total")
  pub threshold : IsThresholdIn (first_of (codes "threshold") rows) asked.threshold
  pub unit : asked.unit ≡ unit_in rows
  pub apparent : asked.apparent ≡ is_named rows (codes "apparent")
  pub each_name : asked.each_name ≡ is_named rows (codes "count-links")
  pub one_file_system : asked.one_file_system ≡ is_named rows (codes "one-file-system")
  pub follow : asked.follow ≡ is_named rows (codes "follow")
  pub sort : asked.sort ≡ is_named rows (codes "sort")
  pub threads : IsNumberOf (one_of (codes "threads") rows) asked.threads
  pub exclude_hidden : asked.exclude_hidden ≡ is_named rows (codes "exclude-hidden")
  pub excludes : texts_of asked.excludes.items ≡ values_in rows (codes "exclude")
  pub exclude_files : texts_of asked.exclude_files.items ≡ values_in rows (codes "exclude-from")
  pub ignore : asked.ignore ≡ is_named rows (codes "ignore")
