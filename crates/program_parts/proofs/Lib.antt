pub mod GatheredFacts
pub mod MaskedFacts
pub mod MatchFacts
pub mod RefusalFacts
pub mod RuleFacts
pub mod StatusFacts
pub mod ValueFacts
mod HelpFacts
