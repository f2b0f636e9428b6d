pub mod Lists
pub mod Texts
pub mod TreeLineFacts
pub mod TextLineFacts
pub mod BuiltFacts
pub mod WordFacts
pub mod PrintFacts
