pub mod NameFacts
pub mod ParentFacts
pub mod StartFacts
pub mod OwnFacts
pub mod AlikeFacts
pub mod WayFacts
pub mod YieldedFacts
pub mod BelowFacts
pub mod FoundFacts
pub mod SameFacts
pub mod ShallowFacts
pub mod DeeperFacts
pub mod LeftFacts
pub mod FitFacts
pub mod WalkFacts
mod RowFacts
