use Rattle.std.proofs.Common.{◌≡◌, ◌++◌, map, flat_map, string_bytes, drop}
use Rattle.std.specs.List.{AllByRecursion}
use Rattle.jwalk_snapshot.specs.Text.{entry_of, entry_text, EntryFits}
use Rattle.jwalk_snapshot.proofs.block.push_names.Given as goal

-- what is written and the text of what is left are all, and if what is left fits, all does
abbrev pub invariant-loop-name : goal.invariant-loop-name
invariant-loop-name l =
    (string_bytes l.out ++ flat_map entry_text (map entry_of (drop l.name-index l.names)) ≡ string_bytes l.fn.out ++ flat_map entry_text (map entry_of l.names))
    × (AllByRecursion EntryFits (map entry_of (drop l.name-index l.names)) → AllByRecursion EntryFits (map entry_of l.names))
