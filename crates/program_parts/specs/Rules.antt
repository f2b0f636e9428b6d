-- The rules of a command line.
use Rattle.std.specs.Prelude.{◌≡◌, ℕ, false, All, List, [], ◌∷◌, map, codes, Some}
use Rattle.clap.specs.Lexer.{usize_max}
use Rattle.clap.specs.Simple.{with_rule}
use Rattle.clap.specs.Words.{App, Rule, Text, new_rule, rule_of}
use Rattle.clap.specs.declared.builder.arg.Arg.{Arg}
use Rattle.clap.specs.declared.builder.action.ArgAction.TheVariants.{Set, Append, Count}
use Rattle.clap.specs.declared.builder.value_parser.ValueParser.TheVariants.{Unsigned}

-- a command with these arguments after its others
abbrev pub with_rules : App → List Rule → App
with_rules app [] = app
with_rules app (rule ∷ rules) = with_rules (with_rule app rule) rules

-- an option of one word, which may be repeated
abbrev pub flag_rule : Text → ℕ → Rule
flag_rule id short = record (new_rule id) { long = Some id; short = Some short; action = Some Count }

-- an option of one long word, which may be repeated
abbrev pub long_flag_rule : Text → Rule
long_flag_rule id = record (new_rule id) { long = Some id; action = Some Count }

-- an option with a value
abbrev pub valued_rule : Text → Rule
valued_rule id = record (new_rule id) { long = Some id; action = Some Set; value_names = 1 }

-- an option with values, one for each word of it
abbrev pub listed_rule : Text → ℕ → Rule
listed_rule id short = record (valued_rule id) { short = Some short; action = Some Append }

-- an option with a number
abbrev pub number_rule : Text → Rule
number_rule id = record (valued_rule id) { parser = Some (Unsigned 0 18446744073709551615) }

-- the number of threads
abbrev pub threads_rule : Rule
threads_rule = record (number_rule (codes "threads")) { short = Some 106 }

-- the roots, which are words that aren't options
abbrev pub root_rule : Rule
root_rule = record (new_rule (codes "root")) { value_names = 1; action = Some Append; range = Some (record { start_inclusive = 0; end_inclusive = usize_max }) }

-- The arguments have these rules, and none is global.
pub record HaveRules (args : List Arg) (rules : List Rule) : Type 0 where
  pub local : All (λ arg. arg.global ≡ false) args
  pub ruled : map rule_of args ≡ rules
