pub mod ThresholdFacts
pub mod RefusalFacts
