pub mod Totals
pub mod Kept
pub mod Counts
pub mod ByAnswers
pub mod Rows
