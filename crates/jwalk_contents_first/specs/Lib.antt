pub mod ContentsFirst
pub mod Coming
pub mod Turns
pub mod Whole
pub mod Rows
