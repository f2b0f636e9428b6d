pub mod NamesFacts
pub mod OrderFacts
pub mod RecordFacts
pub mod OrderedFacts
pub mod AskingFacts
pub mod WalkFacts
pub mod TakenFacts
