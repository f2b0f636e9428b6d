mod Found
mod Steps
mod ReadFacts
mod BatchFacts
mod AheadFacts
mod NextFacts
mod PrepareFacts
pub mod WholeFacts
mod SkipFacts
