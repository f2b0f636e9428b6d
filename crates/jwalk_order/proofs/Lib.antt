pub mod AddressOrder
pub mod Children
mod Due
mod Frontiers
pub mod Keys
pub mod Sets
pub mod Siblings
pub mod Tops
pub mod Within
