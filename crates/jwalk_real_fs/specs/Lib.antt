pub mod DiskCalls
pub mod Texts
pub mod Seen
pub mod Listing
pub mod RealFs
pub mod Patient
