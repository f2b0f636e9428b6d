use Rattle.std.proofs.Common.{arith}
use Rattle.jwalk_readings.proofs.readings.of_either.ReadDirIterReadings.stop.Goals as goal

pub returns : goal.returns
returns g c =
    let stopped = c.stop.ensures in
    record {
      base = stopped.base;
      to_read = stopped.to_read;
      read_ahead = stopped.read_ahead;
      most = omega (arith, stopped.most);
      steady = stopped.steady;
    }
