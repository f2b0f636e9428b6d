use Rattle.std.proofs.Common.{refl}
use Rattle.jwalk_job.proofs.read_dir.ReadDir.new.Goals as goal

pub returns : goal.returns
returns g c = refl
