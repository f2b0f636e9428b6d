use Rattle.std.proofs.Common.{◌∙◌}
use Rattle.jwalk_job.specs.Error.{failure}
use Rattle.jwalk.proofs.BeginsFacts.{fails_by}
use Rattle.jwalk.proofs.walk_dir.over_crew.WalkDirGeneric+C+S+P+A+Crew+R.try_into_iter.Goals as goal

pub returns-in-Some-clause-fails : goal.returns-in-Some-clause-fails
returns-in-Some-clause-fails g c =
    let begins = c.begin_by-walk.ensures.begins in
    fails_by _ c.in-Some.why_not (failure c.start_error.result) c.start_error.ensures (λ busy. begins.busy (c.in-Some.is ∙ busy))
