pub mod HandedFacts
pub mod SubtotalFacts
