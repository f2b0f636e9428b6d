-- What a walk's answers come to, as a line.
use Rattle.std.specs.Prelude.{ℕ, List, ◌++◌, codes}
use Rattle.jwalk_model.specs.Entry.{Item}
use Rattle.jwalk_usage.specs.declared.report.Usage.{Usage}
use Rattle.jwalk_usage.specs.Totals.{usage_text}
use Rattle.jwalk_usage.specs.Kept.{kept_totals}

-- the line of a usage
abbrev pub usage_line : Usage → List ℕ
usage_line usage = usage_text usage ++ codes "\n"

-- the line of what answers come to by the metadata that they keep
abbrev pub totals_line : {R E : Type 0} → List (Item R E) → List ℕ
totals_line l = usage_line (kept_totals l)
