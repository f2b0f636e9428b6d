-- Why words are refused.
use Rattle.std.specs.Prelude.{Bool, ◌&&◌, ◌||◌, List, codes}
use Rattle.clap.specs.Words.{Row, Text}
use Rattle.program_parts.specs.Refusal.{IsRefusedBy}
use Rattle.program_parts.specs.Values.{has_value, is_named}
use Rattle.program_parts.specs.declared.refusal.CommonRefusal.{CommonRefusal}
use Rattle.since_words.specs.Command.{since_app}

-- whether an option is named that leaves out names of a directory by rules
abbrev pub asks_rules : List Row → Bool
asks_rules rows = has_value rows (codes "exclude") || is_named rows (codes "ignore")

-- whether an option is named for what is compared or saved
abbrev pub asks_compared : List Row → Bool
asks_compared rows =
    is_named rows (codes "save") || (is_named rows (codes "quick") || (is_named rows (codes "json") || (is_named rows (codes "exclude-hidden") || (is_named rows (codes "one-file-system") || (has_value rows (codes "max-depth") || asks_rules rows)))))

-- whether an option is named that quick comparisons can't have: what is saved has times, types don't tell file systems, and where rules count no stamps are saved
abbrev pub asks_more : List Row → Bool
asks_more rows = is_named rows (codes "save") || (is_named rows (codes "one-file-system") || asks_rules rows)

-- whether rows are asked for, which are of a file as it is, and an option for what is compared; a quick comparison, and more; or JSON and zero bytes
abbrev pub has_conflict : List Row → Bool
has_conflict rows =
    (is_named rows (codes "rows") && asks_compared rows) || ((is_named rows (codes "quick") && asks_more rows) || (is_named rows (codes "json") && is_named rows (codes "print0")))

-- Why words are refused: they aren't those of the command line, or ask for a text; two options exclude each other; or memory ran out.
abbrev pub IsRefusedFor : List Text → CommonRefusal → Type 0
IsRefusedFor = IsRefusedBy since_app has_conflict
