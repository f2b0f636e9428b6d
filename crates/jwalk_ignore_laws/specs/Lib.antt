pub mod Starts
pub mod States
pub mod Deeper
pub mod Twice
pub mod Walks
pub mod Rows
