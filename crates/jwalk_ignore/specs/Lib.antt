pub mod Callback
-- what rules are and say
pub use Rattle.jwalk_ignore_rules.specs.Pattern as Pattern
pub use Rattle.jwalk_ignore_rules.specs.Rules as Rules
-- all of the crate below, under its name
pub use Rattle.jwalk_ignore_rules.specs as jwalk_ignore_rules
