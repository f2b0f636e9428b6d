use Rattle.std.specs.Duration.{as_nanos}
use Rattle.seek_found.proofs.times.times_of.Goals as goal

pub returns : goal.returns
returns g c = record {
  now = as_nanos c.in_ok-now.now;
  after = c.time_at.ensures;
  before = c.time_at-2.ensures;
  after_file = c.in_ok-after_file.ensures;
}
