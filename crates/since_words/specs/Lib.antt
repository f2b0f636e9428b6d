pub mod Command
pub mod Refusal
pub mod Asks
