pub mod Both
pub mod ByFn
pub mod FilterEntry
pub mod Rows
pub mod SkipNames
