pub mod ListFacts
pub mod ReadingFacts
pub mod SizeFacts
pub mod Utf8Facts
pub mod ItemFacts
