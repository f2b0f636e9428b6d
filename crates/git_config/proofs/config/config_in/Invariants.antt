use Rattle.std.proofs.Common.{◌≡◌, ◌+◌, ◌≤◌, None, length}
use Rattle.git_config.specs.Config.{config_in}
use Rattle.git_config.specs.Places.{place_of}
use Rattle.git_config.specs.Readings.{reading_value, resumed}
use Rattle.git_config.proofs.config.config_in.Given as goal

-- the configuration is what is read of it and what its other bytes say, and no line was bad
abbrev pub invariant-bytes : goal.invariant-bytes
invariant-bytes l = record {
  same : config_in l.bytes ≡ resumed (reading_value l.reading) (place_of l.place) l.rest;
  good : l.reading.config.bad ≡ None;
  line : l.reading.line + length l.rest ≤ length l.bytes + 1;
}

abbrev pub decreases-bytes : goal.decreases-bytes
decreases-bytes l = length l.rest
