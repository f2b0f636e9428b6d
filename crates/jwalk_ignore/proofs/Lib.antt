pub mod ListFacts
pub mod MadeFacts
pub mod IgnoreFacts
pub mod ReaderFacts
pub mod ExcludingFacts
pub mod KeptFacts
-- what callers cite of what rules say
pub use Rattle.jwalk_ignore_rules.proofs.MatchingFacts as MatchingFacts
