pub mod AddedFacts
