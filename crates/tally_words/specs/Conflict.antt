-- Options that exclude each other.
use Rattle.std.specs.Prelude.{Bool, ◌&&◌, ◌||◌, List, codes, if◌then◌else◌}
use Rattle.clap.specs.Words.{Row}
use Rattle.program_parts.specs.Values.{has_value, is_named}

-- whether lines are asked for
abbrev pub asks_lines : List Row → Bool
asks_lines rows = is_named rows (codes "plain") || is_named rows (codes "print0")

-- whether lines and JSON are asked for, or a number of entries in lines or in JSON
abbrev pub has_form_conflict : List Row → Bool
has_form_conflict rows =
    (asks_lines rows && is_named rows (codes "json")) || ((asks_lines rows || is_named rows (codes "json")) && has_value rows (codes "largest"))

-- whether totals alone are asked for, and more
abbrev pub has_total_conflict : List Row → Bool
has_total_conflict rows =
    is_named rows (codes "summarize") && (is_named rows (codes "all") || (has_value rows (codes "max-depth") || has_value rows (codes "largest")))

-- whether sizes are asked for in a unit that is the same for all
abbrev pub asks_fixed_unit : List Row → Bool
asks_fixed_unit rows = is_named rows (codes "kibibytes") || (is_named rows (codes "mebibytes") || is_named rows (codes "bytes"))

-- whether they are in two of these
abbrev pub has_fixed_conflict : List Row → Bool
has_fixed_conflict rows =
    if is_named rows (codes "kibibytes") then is_named rows (codes "mebibytes") || is_named rows (codes "bytes")
    else is_named rows (codes "mebibytes") && is_named rows (codes "bytes")

-- whether sizes are asked for in two units
abbrev pub has_unit_conflict : List Row → Bool
has_unit_conflict rows =
    if is_named rows (codes "human-readable") then is_named rows (codes "si") || asks_fixed_unit rows
    else if is_named rows (codes "si") then asks_fixed_unit rows else has_fixed_conflict rows

-- whether JSON is asked for, and the sum of all roots
abbrev pub has_sum_conflict : List Row → Bool
has_sum_conflict rows = is_named rows (codes "json") && is_named rows (codes "total")

-- whether two options exclude each other
abbrev pub has_conflict : List Row → Bool
has_conflict rows = has_form_conflict rows || (has_sum_conflict rows || (has_total_conflict rows || has_unit_conflict rows))
