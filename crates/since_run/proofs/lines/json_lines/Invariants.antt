use Rattle.std.proofs.Common.{◌≡◌, ◌++◌, drop}
use Rattle.std.specs.Prelude.{flat_map}
use Rattle.since_parts.specs.Json.{json_line}
use Rattle.since_run.proofs.lines.json_lines.Given as goal

abbrev pub invariant-loop-change : goal.invariant-loop-change
invariant-loop-change l = l.text.items ++ flat_map (json_line l.long) (drop l.change-index l.changes) ≡ flat_map (json_line l.fn.long) l.fn.changes
