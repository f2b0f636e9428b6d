pub mod Scale
pub mod SizeRows
pub mod Line
pub mod Nodes
pub mod Layout
pub mod Table
pub mod Document
pub mod LineRows
