pub mod ScaleFacts
pub mod NodesFacts
pub mod TableFacts
pub mod DocumentFacts
