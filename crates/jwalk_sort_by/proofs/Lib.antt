pub mod SortFacts
