pub mod DateFacts
