pub mod Error
pub mod Records
pub mod Read
