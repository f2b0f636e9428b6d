pub mod Number
pub mod TreeLine
pub mod Asked
pub mod Words
pub mod Failure
pub mod TextLines
pub mod NumberedLines
pub mod Built
