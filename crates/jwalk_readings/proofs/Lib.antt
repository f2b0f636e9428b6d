pub mod DueFacts
pub mod OriginFacts
mod AtJob
mod SeenFacts
mod ReadFacts
mod BatchStepFacts
mod BeginFacts
mod BatchPrepareFacts
pub mod StackFacts
pub mod ResultFacts
pub mod AlikeFacts
pub mod KnownFacts
mod CrewFacts
pub mod CrewSteadyFacts
pub mod RestFacts
mod GivesFacts
mod PreparedReadFacts
mod SkipFacts
mod SourceInFacts
pub mod PreparedByFacts
