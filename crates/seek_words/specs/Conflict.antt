-- Options that exclude each other.
use Rattle.std.specs.Prelude.{Bool, ◌&&◌, ◌||◌, List, codes}
use Rattle.clap.specs.Words.{Row}
use Rattle.program_parts.specs.Values.{has_value}

-- whether two options exclude each other: an exact depth and another depth
abbrev pub has_conflict : List Row → Bool
has_conflict rows = has_value rows (codes "exact-depth") && (has_value rows (codes "min-depth") || has_value rows (codes "max-depth"))
