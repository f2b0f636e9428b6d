-- The command line.
use Rattle.std.specs.Prelude.{true, List, [], ◌∷◌, codes, Some}
use Rattle.clap.specs.Simple.{new_shape}
use Rattle.clap.specs.Words.{App, Rule, new_app, new_rule}
use Rattle.clap.specs.declared.builder.value_parser.ValueParser.TheVariants.{Unsigned}
use Rattle.program_parts.specs.Rules.{with_rules, flag_rule, listed_rule, long_flag_rule, number_rule, threads_rule}

-- the file, which has to be named
abbrev pub file_rule : Rule
file_rule = record (new_rule (codes "file")) { value_names = 1; required = true }

-- the root
abbrev pub tree_rule : Rule
tree_rule = record (new_rule (codes "root")) { value_names = 1 }

-- the words that are no options
abbrev pub place_rules : List Rule
place_rules = file_rule ∷ tree_rule ∷ []

-- the options
abbrev pub option_rules : List Rule
option_rules =
    long_flag_rule (codes "save") ∷ long_flag_rule (codes "quick") ∷ long_flag_rule (codes "rows") ∷ flag_rule (codes "long") 108 ∷ flag_rule (codes "print0") 48
    ∷ long_flag_rule (codes "json") ∷ flag_rule (codes "quiet") 113 ∷ threads_rule ∷ []

-- the greatest depth, which is at least 1
abbrev pub depth_rule : Rule
depth_rule = record (number_rule (codes "max-depth")) { short = Some 100; parser = Some (Unsigned 1 18446744073709551615) }

-- the options for what of a tree is compared
abbrev pub choice_rules : List Rule
choice_rules =
    long_flag_rule (codes "exclude-hidden") ∷ flag_rule (codes "one-file-system") 120 ∷ depth_rule ∷ listed_rule (codes "exclude") 69 ∷ long_flag_rule (codes "ignore") ∷ []

-- the command with its name and its version
abbrev pub named_app : App
named_app = record (new_app (codes "since")) { top = record (new_shape (codes "since")) { has_version = true } }

-- the command line of the program
abbrev pub since_app : App
since_app = with_rules (with_rules (with_rules named_app place_rules) option_rules) choice_rules
