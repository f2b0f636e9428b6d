mod DocumentFacts
