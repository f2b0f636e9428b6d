pub mod Text
pub mod Reading
