pub mod Rows
pub mod SortBy
