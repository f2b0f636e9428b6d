pub mod Entries
pub mod Table
pub mod Palette
pub mod Painted
mod PaletteRows
