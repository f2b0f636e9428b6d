pub mod Command
pub mod Threshold
pub mod Asks
pub mod Conflict
pub mod AsksFor
pub mod Refusal
