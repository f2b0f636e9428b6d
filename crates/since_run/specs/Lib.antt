pub mod Walks
pub mod Yielded
pub mod Finds
pub mod Run
pub mod Call
pub mod Compared
pub mod Done
