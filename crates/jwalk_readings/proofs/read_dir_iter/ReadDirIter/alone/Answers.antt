use Rattle.std.proofs.Common.{◌∙◌, ap}
use Rattle.jwalk_readings.proofs.read_dir_iter.ReadDirIter.alone.Goals as goal

pub returns-in-Ok : goal.returns-in-Ok
returns-in-Ok g c = record {
  own = ap (λ b. b.by_crew) c.begin.ensures.base ∙ c.new-reads.ensures.own;
  job = ap (λ b. b.job) c.begin.ensures.base ∙ c.new-reads.ensures.job;
  width = ap (λ b. b.width) c.begin.ensures.base ∙ c.new-reads.ensures.width;
  to_read = c.in-Ok.ensures.to_read;
  read_ahead = c.in-Ok.ensures.read_ahead;
  memory = tt;
}

pub returns-in-Err : goal.returns-in-Err
returns-in-Err g c = record { own = tt; job = tt; width = tt; to_read = tt; read_ahead = tt; memory = c.memory.ensures }
