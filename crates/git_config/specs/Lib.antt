pub mod Config
pub mod ConfigRows
pub mod Places
pub mod Readings
