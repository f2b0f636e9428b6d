-- What may be set of ignore files, as a value.
use Rattle.std.specs.Prelude.{Bool, List, [], Option, Some, None}
use Rattle.jwalk_ignore.specs.Pattern.{Pattern}
use Rattle.jwalk_ignore.specs.Rules.{rules_value}
use Rattle.jwalk_ignore.specs.jwalk_ignore_rules.declared.rules.Rules.{Rules}
use Rattle.jwalk_ignore.specs.declared.callback.settings.Settings.{Settings as CodeSettings}

-- the use of rules, with the patterns that are given
pub record Settings : Type 0 where
  pub keeps_hidden : Bool
  pub anywhere : Bool
  pub version_control : Bool
  pub above_the_root : Bool
  pub fdignore : Bool
  pub drops_errors : Bool
  pub given : List Pattern

-- the patterns of rules, if there are some
abbrev pub patterns_in : {A : Type 0} → Option (Rules A) → List Pattern
patterns_in None = []
patterns_in (Some rules) = rules_value rules

-- settings by value
abbrev pub settings_value : CodeSettings → Settings
settings_value settings = record {
  keeps_hidden = settings.keeps_hidden;
  anywhere = settings.anywhere;
  version_control = settings.version_control;
  above_the_root = settings.above_the_root;
  fdignore = settings.fdignore;
  drops_errors = settings.drops_errors;
  given = patterns_in settings.given;
}
