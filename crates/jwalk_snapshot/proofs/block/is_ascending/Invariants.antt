use Rattle.std.proofs.Common.{◌≡◌, map, drop}
use Rattle.std.specs.Prelude.{option_map, None}
use Rattle.jwalk_snapshot.specs.Text.{entry_of, text_in, ascends_behind}
use Rattle.jwalk_snapshot.proofs.block.is_ascending.Given as goal

abbrev pub invariant-loop-name : goal.invariant-loop-name
invariant-loop-name l = ascends_behind (option_map text_in l.before) (map entry_of (drop l.name-index l.names)) ≡ ascends_behind None (map entry_of l.names)
