pub mod OriginFacts
pub mod ArrivalFacts
mod HandledFacts
mod SharedFacts
mod ReadAheadFacts
mod AwaitFacts
