use Rattle.std.proofs.Common.{◌≡◌, ◌++◌, drop}
use Rattle.std.specs.Prelude.{flat_map}
use Rattle.since_parts.specs.Line.{line_of}
use Rattle.since_run.proofs.lines.lines_of.Given as goal

abbrev pub invariant-loop-change : goal.invariant-loop-change
invariant-loop-change l = l.text.items ++ flat_map (line_of l.style l.long) (drop l.change-index l.changes) ≡ flat_map (line_of l.fn.style l.fn.long) l.fn.changes
