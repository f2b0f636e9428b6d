use Rattle.std.proofs.Common.{◌≤◌, ◌<◌, ◌-◌}
use Rattle.seek_details.specs.Date.{march_days}
use Rattle.seek_details.proofs.date.year_at.Given as goal

-- the year is one of the cycle's, and has begun by the day
abbrev pub invariant-loop-year : goal.invariant-loop-year
invariant-loop-year l = record { in_cycle : l.year < 400; begun : march_days l.year ≤ l.day }

abbrev pub decreases-loop-year : goal.decreases-loop-year
decreases-loop-year l = l.day - l.year
