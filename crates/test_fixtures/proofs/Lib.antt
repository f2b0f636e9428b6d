mod Depths
pub mod Asked
