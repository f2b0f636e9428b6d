pub mod Answers
pub mod Totals
pub mod AskedWalk
pub mod Noting
pub mod Source
pub mod Run
