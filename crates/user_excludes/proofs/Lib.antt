pub mod NamedFacts
pub mod TextFacts
pub mod UnreadFacts
