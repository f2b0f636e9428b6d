mod ReceivedFacts
mod AheadFacts
mod StepFacts
pub mod PlacedFacts
mod PassFacts
mod PreparedPassFacts
pub mod AnswerFacts
mod SkipFacts
pub mod StartFacts
pub mod FillFacts
pub mod SameFacts
