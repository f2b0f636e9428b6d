pub mod Rule
pub mod Keyed
