use Rattle.std.proofs.Common.{◌≡◌, ◌++◌, map, take}
use Rattle.std.specs.Prelude.{flat_map}
use Rattle.jwalk_snapshot.specs.Text.{entry_of}
use Rattle.since_parts.specs.Row.{row_of}
use Rattle.since_parts.proofs.row.push_rows.Given as goal

abbrev pub invariant-loop-name : goal.invariant-loop-name
invariant-loop-name l = l.out.items ≡ l.fn.out.items ++ flat_map (row_of l.style l.block.path.now) (map entry_of (take l.name-index l.block.names.items))
