pub mod HandsOnNames
pub mod Subtotals
pub mod ThreeWays
