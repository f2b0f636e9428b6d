pub mod CallFacts
