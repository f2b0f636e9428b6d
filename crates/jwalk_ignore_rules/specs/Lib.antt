pub mod Pattern
pub mod Rules
