pub mod GivenFacts
mod TieFacts
mod PathListFacts
mod ListFacts
mod EscapeFacts
mod GatheredFacts
mod ReadingFacts
mod OrderedFacts
mod WalkedTrees
