use Rattle.jwalk_readings.proofs.read_dir_iter.ReadDirIter.ahead.Goals as goal

pub returns-in-Walk : goal.returns-in-Walk
returns-in-Walk g c = rw c.in-Walk.is (record { alone = λ own. c.ahead.ensures.done; counted = tt; crew = λ by. absurd cc })

pub returns-in-CrewWalk : goal.returns-in-CrewWalk
returns-in-CrewWalk g c = rw c.in-CrewWalk.is (record { alone = λ own. absurd cc; counted = c.ahead-in-CrewWalk.ensures.counted; crew = λ by. c.ahead-in-CrewWalk.ensures.most })
