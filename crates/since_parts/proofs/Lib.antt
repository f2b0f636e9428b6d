mod ChoiceFacts
mod FoundFacts
mod ListingFacts
mod HeldFacts
mod JsonFacts
mod SavedFacts
mod TreeFacts
