mod AccountFacts
mod OwnerFacts
mod GlobFacts
pub mod EndFacts
pub mod LimitFacts
pub mod PruneFacts
pub mod FoundFacts
pub mod WholeFacts
pub mod CleanFacts
pub mod FirstFacts
pub mod ShownFacts
mod SoughtFacts
mod TestFacts
pub mod RootsFacts
