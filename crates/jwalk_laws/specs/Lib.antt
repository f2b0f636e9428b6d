pub mod Callbacks
pub mod OwnReaders
pub mod States
pub mod Skipped
