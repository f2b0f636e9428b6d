use Rattle.jwalk_readings.proofs.readings.of_either.ReadDirIterReadings.read_next.Goals as goal

pub returns-in-Walk-clause-next : goal.returns-in-Walk-clause-next
returns-in-Walk-clause-next g c = rw c.in-Walk.is c.read_next.ensures.next

pub returns-in-CrewWalk-clause-next : goal.returns-in-CrewWalk-clause-next
returns-in-CrewWalk-clause-next g c = rw c.in-CrewWalk.is c.read_next-in-CrewWalk.ensures.next
