-- The command line.
use Rattle.std.specs.Prelude.{ℕ, true, List, [], ◌∷◌, codes, Some}
use Rattle.clap.specs.Simple.{new_shape}
use Rattle.clap.specs.Words.{App, Rule, Text, new_app, new_rule}
use Rattle.clap.specs.declared.builder.action.ArgAction.TheVariants.{Help}
use Rattle.program_parts.specs.Rules.{with_rules, flag_rule, long_flag_rule, listed_rule, valued_rule, number_rule, threads_rule, root_rule}

-- an option with a number, and with a letter
abbrev pub limit_rule : Text → ℕ → Rule
limit_rule id letter = record (number_rule id) { short = Some letter }

-- the size that results have at least, or at most
abbrev pub threshold_rule : Rule
threshold_rule = record (valued_rule (codes "threshold")) { short = Some 116 }

-- which results are written
abbrev pub shown_rules : List Rule
shown_rules =
    limit_rule (codes "max-depth") 100 ∷ flag_rule (codes "all") 97 ∷ limit_rule (codes "largest") 110 ∷ flag_rule (codes "summarize") 115
    ∷ flag_rule (codes "total") 99 ∷ threshold_rule ∷ []

-- how they are written
abbrev pub form_rules : List Rule
form_rules =
    long_flag_rule (codes "plain") ∷ flag_rule (codes "print0") 48 ∷ long_flag_rule (codes "json") ∷ []

-- the units of sizes
abbrev pub unit_rules : List Rule
unit_rules =
    flag_rule (codes "human-readable") 104 ∷ long_flag_rule (codes "si") ∷ flag_rule (codes "kibibytes") 107 ∷ flag_rule (codes "mebibytes") 109 ∷ flag_rule (codes "bytes") 98 ∷ []

-- what counts
abbrev pub counted_rules : List Rule
counted_rules =
    long_flag_rule (codes "apparent") ∷ flag_rule (codes "count-links") 108 ∷ long_flag_rule (codes "exclude-hidden") ∷ listed_rule (codes "exclude") 69
    ∷ listed_rule (codes "exclude-from") 88 ∷ long_flag_rule (codes "ignore") ∷ []

-- the word for help, which has no letter
abbrev pub help_rule : Rule
help_rule = record (new_rule (codes "help")) { long = Some (codes "help"); action = Some Help }

-- how directories are read, and the word for help
abbrev pub walked_rules : List Rule
walked_rules =
    flag_rule (codes "one-file-system") 120 ∷ flag_rule (codes "follow") 76 ∷ long_flag_rule (codes "sort") ∷ threads_rule ∷ help_rule ∷ []

-- the command with its name and its version
abbrev pub named_app : App
named_app = record (new_app (codes "tally")) { top = record (new_shape (codes "tally")) { has_version = true; disable_help_flag = true } }

-- the command line of the program
abbrev pub tally_app : App
tally_app = with_rules (with_rules (with_rules (with_rules (with_rules (with_rules named_app (root_rule ∷ [])) shown_rules) form_rules) unit_rules) counted_rules) walked_rules
