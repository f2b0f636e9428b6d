pub mod Skip
pub mod Step
pub mod Entries
pub mod DirEntryIter
