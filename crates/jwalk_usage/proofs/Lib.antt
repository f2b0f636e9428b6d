pub mod TotalFacts
pub mod CountFacts
pub mod StateFacts
pub mod AddFacts
pub mod GrowFacts
pub mod AskedFacts
pub mod WholeTotals
