mod FaultFacts
mod ListingFacts
mod ReadFacts
