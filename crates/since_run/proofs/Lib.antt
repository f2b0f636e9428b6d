mod FindFacts
mod CompareFacts
mod RunFacts
