pub mod ResultFacts
pub mod CountingFacts
pub mod DeviceFacts
pub mod TakenFacts
pub mod WalkFacts
pub mod RootFacts
pub mod WrittenFacts
