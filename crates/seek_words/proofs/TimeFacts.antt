-- Dates and times of day in nanoseconds.
use Rattle.std.proofs.Common.{◌≡◌, refl}
use Rattle.jiff.specs.Words.{civil_nanos, date_parts, time_parts}
use Rattle.jiff_core.specs.declared.civil.datetime.DateTime.{DateTime}
use Rattle.jiff_fmt.specs.Temporal.{parts_nanos}

-- they are those of their parts
pub civil_parts : (dt : DateTime) → civil_nanos dt ≡ parts_nanos (date_parts dt.date) (time_parts dt.time)
unfolding civil_nanos
civil_parts dt = refl
