pub mod HeldFacts
pub mod ClosingFacts
pub mod OrderFacts
pub mod TurnFacts
pub mod RunFacts
pub mod WholeFacts
