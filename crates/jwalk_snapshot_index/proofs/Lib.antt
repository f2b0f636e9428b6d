mod RecordFacts
