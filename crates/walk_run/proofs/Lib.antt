pub mod LineFacts
pub mod NotingFacts
pub mod PrintFacts
pub mod AskedWalkFacts
pub mod RunFacts
