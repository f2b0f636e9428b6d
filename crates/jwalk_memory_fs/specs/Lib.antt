pub mod BuildError
pub mod Child
pub mod Hit
pub mod Branch
pub mod Directory
pub mod Table
pub mod MemoryFs
