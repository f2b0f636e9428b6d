pub mod Home
pub mod OwnHome
pub mod Named
pub mod NamedViews
pub mod Excludes
pub mod Repository
pub mod UserTexts
