pub mod Agreement
pub mod Totals
pub mod Trees
pub mod Rows
