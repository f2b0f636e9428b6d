use Rattle.jwalk_readings.proofs.read_dir_iter.ReadDirIter.job.Goals as goal

pub returns-in-Walk : goal.returns-in-Walk
returns-in-Walk g c = rw c.in-Walk.is c.job.ensures

pub returns-in-CrewWalk : goal.returns-in-CrewWalk
returns-in-CrewWalk g c = rw c.in-CrewWalk.is c.job-in-CrewWalk.ensures
