use Rattle.std.proofs.Common.{ap}
use Rattle.std.specs.Prelude.{unwrap_or}
use Rattle.jwalk_job.proofs.job.links.own_name.Goals as goal

pub returns-in-Some : goal.returns-in-Some
returns-in-Some c = ap (λ o. unwrap_or o c.args.path.now) (rw (c.in-Some.is) at c.file_name.ensures)

pub returns-in-None : goal.returns-in-None
returns-in-None c = ap (λ o. unwrap_or o c.args.path.now) (rw (c.in-None.is) at c.file_name.ensures)
