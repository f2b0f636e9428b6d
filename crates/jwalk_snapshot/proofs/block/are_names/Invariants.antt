use Rattle.std.proofs.Common.{◌≡◌, map, drop}
use Rattle.std.specs.List.{list_all}
use Rattle.jwalk_snapshot.specs.Text.{entry_of, is_entry}
use Rattle.jwalk_snapshot.proofs.block.are_names.Given as goal

abbrev pub invariant-loop-name : goal.invariant-loop-name
invariant-loop-name l = list_all is_entry (map entry_of (drop l.name-index l.names)) ≡ list_all is_entry (map entry_of l.names)
