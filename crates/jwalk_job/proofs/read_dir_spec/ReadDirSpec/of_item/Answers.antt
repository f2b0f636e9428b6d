use Rattle.std.proofs.Common.{string_bytes, refl, ap}
use Rattle.jwalk_job.proofs.read_dir_spec.ReadDirSpec.of_item.Goals as goal

pub returns : goal.returns
returns g c = rw c.in-Ok.is (rw c.in-Some.is ((rw (ap string_bytes c.in_ok-clone.ensures.cases, c.in_ok-share.ensures) refl, c.in_ok-first_state.ensures), tt))
