pub mod Columns
pub mod Mode
pub mod ModeRows
pub mod Date
pub mod DateRows
pub mod Details
pub mod DetailsRows
