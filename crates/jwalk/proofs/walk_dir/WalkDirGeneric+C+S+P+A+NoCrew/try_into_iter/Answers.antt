use Rattle.std.proofs.Common.{sym}
use Rattle.jwalk.proofs.walk_dir.WalkDirGeneric+C+S+P+A+NoCrew.try_into_iter.Goals as goal

pub returns-clause-holds : goal.returns-clause-holds
returns-clause-holds g c = c.begin-walk.ensures.holds (sym c.if-is_refused.ensures)
