pub mod Place
pub mod Views
