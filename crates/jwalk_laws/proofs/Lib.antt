mod CallbackFacts
mod OwnReadersFacts
pub mod SkippedFacts
