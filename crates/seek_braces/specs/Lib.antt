pub mod Place
pub mod Item
pub mod Expanded
pub mod Rows
pub mod Reading
