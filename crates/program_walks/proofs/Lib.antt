pub mod CrewFacts
pub mod FolderFacts
