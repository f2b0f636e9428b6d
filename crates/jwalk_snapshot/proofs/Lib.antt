pub mod NumberFacts
pub mod ListFacts
pub mod FieldLaws
pub mod FolderLaws
pub mod ReadFacts
