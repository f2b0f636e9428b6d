pub mod PlaceFacts
pub mod SinkFacts
