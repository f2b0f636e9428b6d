pub mod DepthFilters
pub mod FilterFacts
pub mod SkipFacts
