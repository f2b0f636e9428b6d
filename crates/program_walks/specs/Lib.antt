pub mod Crew
pub mod Folders
