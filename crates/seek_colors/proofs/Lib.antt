pub mod ColorFacts
pub mod PaletteFacts
pub mod TableFacts
