use Rattle.jwalk.proofs.BeginFacts.{by_flag}
use Rattle.jwalk.proofs.walk_dir.WalkDirGeneric+C+S+P+A+NoCrew.into_iter.Goals as goal

pub returns-clause-holds : goal.returns-clause-holds
returns-clause-holds g c = by_flag c.begin.result.refused c.begin.ensures.refused c.begin.ensures.holds
